-- A line read a byte further: what it comes to stays the same, whatever follows.
-- Assumes nothing.
use mathlib.Core.Path.{◌≡◌, refl, sym, ap, ◌∙◌}
use mathlib.Core.Bool.{Bool, true, false, ◌&&◌}
use mathlib.Core.List.{List, [], ◌∷◌, ◌++◌, map}
use Prim.Native.Nat.{ℕ, zero, suc, ◌+◌, ◌*◌, ◌-◌, ◌^◌, ◌≤◌, ◌<◌}
use native.Mathlib.Omega.{arith}
use lib.ListN.{drop}
use borrow.Author.Tests.{ne_eqb}
use Rattle.std.specs.Prelude.{Option, None}
use Rattle.script.specs.declared.Command.{Command}
use Rattle.script.specs.Commands.{alone, with_one, with_two, with_three, with_four, command_for, pick_command}
use Rattle.script.specs.Lines.{Words, words_of, words_with, is_digit, spelled, spelled_from, is_number_from, all_numbers, command_in, command_of}
use Rattle.script.specs.Meant.{whole_numbers, goes_on}
use Rattle.script.proofs.Spelled.{number-ends, number-empty, number-breaks, number-overflows, number-goes-on}

pick_same : (t : Bool) (command : Option Command) → pick_command t command command ≡ command
pick_same true command = refl
pick_same false command = refl

-- a newest number that is none
newest-fails : (t : Bool) (words : List (List ℕ)) (command : Option Command) → t ≡ false → pick_command (t && all_numbers words) command None ≡ None
newest-fails t words command e = ap (λ (b : Bool). pick_command (b && all_numbers words) command None) e

-- ---- words

pub words-space : (rest : List ℕ) → words_of (32 ∷ rest) ≡ record { head = []; tail = (words_of rest).head ∷ (words_of rest).tail }
unfolding words_of
words-space rest = refl

pub words-other : (byte : ℕ) (rest : List ℕ) → (byte ≡ 32 → ⊥)
    → words_of (byte ∷ rest) ≡ record { head = byte ∷ (words_of rest).head; tail = (words_of rest).tail }
unfolding words_of
words-other byte rest n = ap (λ (t : Bool). words_with t byte (words_of rest)) (ne_eqb byte 32 n)

-- ---- the first byte

pub first-space : (rest : List ℕ) → None ≡ command_of (32 ∷ rest)
unfolding words_of command_in
first-space rest = refl

letter-alone : (letter : ℕ) (word : List ℕ) (words : List (List ℕ))
    → goes_on 0 letter [] false 0 (record { head = word; tail = words }) ≡ command_in (letter ∷ word) words
unfolding command_in
letter-alone letter [] words = refl
letter-alone letter (byte ∷ word) words = refl

pub first-letter : (letter : ℕ) (rest : List ℕ) → (letter ≡ 32 → ⊥) → goes_on 0 letter [] false 0 (words_of rest) ≡ command_of (letter ∷ rest)
first-letter letter rest n =
    letter-alone letter (words_of rest).head (words_of rest).tail
    ∙ ap (λ (w : Words). command_in w.head w.tail) (sym (words-other letter rest n))

-- ---- a space

module _ (letter first second third last : ℕ) (rest : List ℕ) where
  -- no digit since the last space
  pub space-again : (count : ℕ) (digits : Bool) → (count ≡ 0 → ⊥) → digits ≡ false
      → None ≡ goes_on count letter (whole_numbers count first second third) digits last (words_of (32 ∷ rest))
  space-again zero digits n d = absurd (n refl)
  space-again (suc count) digits n d =
      sym
      (ap (goes_on (suc count) letter (whole_numbers (suc count) first second third) digits last) (words-space rest)
      ∙ newest-fails (is_number_from last digits []) ((words_of rest).head ∷ (words_of rest).tail) _
      (ap (λ (b : Bool). is_number_from last b []) d ∙ number-empty last))

  -- a fifth number
  pub space-fifth : (count : ℕ) (digits : Bool) → 4 ≤ count
      → None ≡ goes_on count letter (whole_numbers count first second third) digits last (words_of (32 ∷ rest))
  unfolding command_for
  space-fifth zero digits h = absurd (omega arith)
  space-fifth (suc count) digits h =
      let e : 4 - suc count ≡ 0 = omega arith in
      let words = (words_of rest).head ∷ (words_of rest).tail in
      let test = is_number_from last digits [] && all_numbers words in
      sym
      (ap (goes_on (suc count) letter (whole_numbers (suc count) first second third) digits last) (words-space rest)
      ∙ ap
      (λ (n : ℕ). pick_command test (command_for letter (drop n (first ∷ second ∷ third ∷ []) ++ (spelled_from last [] ∷ map spelled words))) None)
      e
      ∙ pick_same test None)

  -- a number ends, another begins
  newest-ends : (count : ℕ) (whole : List ℕ) (digits : Bool) → digits ≡ true → last < 2 ^ 64
      → goes_on (suc count) letter whole digits last (words_of (32 ∷ rest))
      ≡ pick_command (all_numbers ((words_of rest).head ∷ (words_of rest).tail))
      (command_for letter (whole ++ (last ∷ map spelled ((words_of rest).head ∷ (words_of rest).tail)))) None
  unfolding spelled_from
  newest-ends count whole digits d l =
      let words = (words_of rest).head ∷ (words_of rest).tail in
      ap (goes_on (suc count) letter whole digits last) (words-space rest)
      ∙ ap (λ (t : Bool). pick_command (t && all_numbers words) (command_for letter (whole ++ (last ∷ map spelled words))) None)
      (ap (λ (b : Bool). is_number_from last b []) d ∙ number-ends last l)

  pub space-begins : (count : ℕ) (digits : Bool) → count < 4 → ((count ≡ 0 → ⊥) → digits ≡ true) → last < 2 ^ 64
      → goes_on (count + 1) letter (whole_numbers (count + 1) second third last) false 0 (words_of rest)
      ≡ goes_on count letter (whole_numbers count first second third) digits last (words_of (32 ∷ rest))
  unfolding all_numbers
  space-begins zero digits h d l =
      sym (ap (goes_on 0 letter (whole_numbers 0 first second third) digits last) (words-space rest))
  space-begins (suc zero) digits h d l =
      sym (newest-ends 0 (whole_numbers 1 first second third) digits (d (λ (z : ◌≡◌ {A = ℕ} 1 0). omega arith)) l)
  space-begins (suc (suc zero)) digits h d l =
      sym (newest-ends 1 (whole_numbers 2 first second third) digits (d (λ (z : ◌≡◌ {A = ℕ} 2 0). omega arith)) l)
  space-begins (suc (suc (suc zero))) digits h d l =
      sym (newest-ends 2 (whole_numbers 3 first second third) digits (d (λ (z : ◌≡◌ {A = ℕ} 3 0). omega arith)) l)
  space-begins (suc (suc (suc (suc count)))) digits h d l = absurd (omega arith)

-- ---- another byte

module _ (letter : ℕ) (whole : List ℕ) (digits : Bool) (last byte : ℕ) (rest : List ℕ) (other : byte ≡ 32 → ⊥) where
  -- in the letter's word
  after-letter : None ≡ goes_on 0 letter whole digits last (words_of (byte ∷ rest))
  after-letter = sym (ap (goes_on 0 letter whole digits last) (words-other byte rest other))

  newest-wrong : (count : ℕ) → is_number_from last digits (byte ∷ (words_of rest).head) ≡ false
      → None ≡ goes_on (suc count) letter whole digits last (words_of (byte ∷ rest))
  newest-wrong count e =
      sym
      (ap (goes_on (suc count) letter whole digits last) (words-other byte rest other)
      ∙ newest-fails (is_number_from last digits (byte ∷ (words_of rest).head)) (words_of rest).tail _ e)

  -- no digit, or no number to go on
  pub byte-wrong : (count : ℕ) → ((count ≡ 0 → ⊥) → is_digit byte ≡ false)
      → None ≡ goes_on count letter whole digits last (words_of (byte ∷ rest))
  byte-wrong zero h = after-letter
  byte-wrong (suc count) h = newest-wrong count (number-breaks last digits byte (words_of rest).head (h (λ (z : suc count ≡ 0). omega arith)))

  -- a number that grows too large
  pub byte-overflows : (count : ℕ) → (count ≡ 0 → ⊥) → 2 ^ 64 ≤ last * 10 + (byte - 48)
      → None ≡ goes_on count letter whole digits last (words_of (byte ∷ rest))
  byte-overflows zero n h = absurd (n refl)
  byte-overflows (suc count) n h = newest-wrong count (number-overflows last digits byte (words_of rest).head h)

  -- a digit more
  pub byte-goes-on : (count longer : ℕ) → (count ≡ 0 → ⊥) → is_digit byte ≡ true → longer ≡ last * 10 + (byte - 48)
      → goes_on count letter whole true longer (words_of rest) ≡ goes_on count letter whole digits last (words_of (byte ∷ rest))
  unfolding spelled_from
  byte-goes-on zero longer n h e = absurd (n refl)
  byte-goes-on (suc count) longer n h e =
      ap (λ (l : ℕ). goes_on (suc count) letter whole true l (words_of rest)) e
      ∙ sym
      (ap (goes_on (suc count) letter whole digits last) (words-other byte rest other)
      ∙ ap
      (λ (t : Bool). pick_command (t && all_numbers (words_of rest).tail)
      (command_for letter (whole ++ (spelled_from (last * 10 + (byte - 48)) (words_of rest).head ∷ map spelled (words_of rest).tail))) None)
      (number-goes-on last digits byte (words_of rest).head h))

-- ---- the line's end

module _ (letter : ℕ) (whole : List ℕ) (last : ℕ) where
  pub ends-alone : (count : ℕ) (digits : Bool) → count ≡ 0 → alone letter ≡ goes_on count letter whole digits last (words_of [])
  unfolding words_of all_numbers command_for
  ends-alone count digits e = sym (ap (λ (n : ℕ). goes_on n letter whole digits last (words_of [])) e)

  pub ends-empty : (count : ℕ) (digits : Bool) → (count ≡ 0 → ⊥) → digits ≡ false → None ≡ goes_on count letter whole digits last (words_of [])
  unfolding words_of
  ends-empty zero digits n d = absurd (n refl)
  ends-empty (suc count) digits n d =
      sym (newest-fails (is_number_from last digits []) [] _ (ap (λ (b : Bool). is_number_from last b []) d ∙ number-empty last))

  pub ends-number : (count : ℕ) (digits : Bool) → (count ≡ 0 → ⊥) → digits ≡ true → last < 2 ^ 64
      → command_for letter (whole ++ (last ∷ [])) ≡ goes_on count letter whole digits last (words_of [])
  unfolding words_of all_numbers spelled_from
  ends-number zero digits n d l = absurd (n refl)
  ends-number (suc count) digits n d l =
      sym
      (ap (λ (t : Bool). pick_command (t && true) (command_for letter (whole ++ (last ∷ []))) None)
      (ap (λ (b : Bool). is_number_from last b []) d ∙ number-ends last l))

-- the whole numbers and the newest, by how many were begun
module _ (letter first second third last count : ℕ) where
  numbers : ℕ → List ℕ
  numbers n = whole_numbers n first second third ++ (last ∷ [])

  pub one_number : count ≡ 1 → with_one letter last ≡ command_for letter (whole_numbers count first second third ++ (last ∷ []))
  unfolding command_for numbers
  one_number e = sym (ap (λ (n : ℕ). command_for letter (numbers n)) e)

  pub two-numbers : count ≡ 2 → with_two letter third last ≡ command_for letter (whole_numbers count first second third ++ (last ∷ []))
  unfolding command_for numbers
  two-numbers e = sym (ap (λ (n : ℕ). command_for letter (numbers n)) e)

  pub three-numbers : count ≡ 3 → with_three letter second third last ≡ command_for letter (whole_numbers count first second third ++ (last ∷ []))
  unfolding command_for numbers
  three-numbers e = sym (ap (λ (n : ℕ). command_for letter (numbers n)) e)

  pub four-numbers : 4 ≤ count → with_four letter first second third last ≡ command_for letter (whole_numbers count first second third ++ (last ∷ []))
  unfolding command_for
  four-numbers h =
      let e : 4 - count ≡ 0 = omega arith in
      sym (ap (λ (n : ℕ). command_for letter (drop n (first ∷ second ∷ third ∷ []) ++ (last ∷ []))) e)
