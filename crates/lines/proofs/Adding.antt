-- Words, numbers and lines added one behind the other, and the text that they make.
-- Assumes nothing.
use mathlib.Core.Path.{◌≡◌, refl, sym, ap, subst, ◌∙◌}
use mathlib.Core.List.{List, [], ◌++◌, append_assoc}
use Prim.Native.Nat.{ℕ, ◌+◌, ◌^◌, ◌≤◌, ◌<◌}
use native.Mathlib.Omega.{arith}
use lib.ListN.{length, take, drop, length-append, length-take, length-drop, take-append-drop}
use lib.Seq.{drop-append-le}
use Rattle.area.specs.Part.{part, splice}
use Rattle.area.proofs.Parts.{part-all, length_part, length-splice, splice-splice}
use Rattle.std.specs.Fmt as kit
use Rattle.std.proofs.lemmas.Fmt.{length-decimal-le}
use Rattle.lines.specs.Text.{decimal, Adds, Shows}
use Rattle.lines.proofs.Decimal.{spelled}

-- a word copied to its place is added there
pub adds-copied : (area word area' : List ℕ) (at : ℕ) → at + length word ≤ length area
    → area' ≡ splice area at (length word) (part word 0 (length word)) → Adds area at word area' (at + length word)
adds-copied area word area' at fits e = record {
  end_is = refl;
  within = fits;
  area_is = e ∙ ap (splice area at (length word)) (part-all word (length word) (omega arith));
}

-- no text yet
pub adds-nothing : (area : List ℕ) → Adds area 0 [] area 0
unfolding splice
adds-nothing area = record { end_is = refl; within = omega arith; area_is = refl }

-- the area keeps its length
pub adds-long : (area : List ℕ) (at : ℕ) (text area' : List ℕ) (end : ℕ) → Adds area at text area' end → length area' ≡ length area
adds-long area at text area' end a = ap length a.area_is ∙ length-splice area at (length text) text (omega (arith, a.end_is, a.within)) refl

-- two texts, one behind the other, are one
pub adds-both : (area : List ℕ) (at : ℕ) (first area₁ : List ℕ) (middle : ℕ) (second area₂ : List ℕ) (end : ℕ)
    → Adds area at first area₁ middle → Adds area₁ middle second area₂ end → Adds area at (first ++ second) area₂ end
adds-both area at first area₁ middle second area₂ end a b =
    let fits : at + length first ≤ length area = omega (arith, a.end_is, a.within) in
    record {
      end_is = omega (arith, a.end_is, b.end_is, length-append first second);
      within = omega (arith, b.within, adds-long area at first area₁ middle a);
      area_is =
          b.area_is
          ∙ ap (λ (l : List ℕ). splice l middle (length second) second) a.area_is
          ∙ ap (λ (m : ℕ). splice (splice area at (length first) first) m (length second) second) a.end_is
          ∙ splice-splice area at (length first) (length second) first second fits refl
          ∙ ap (λ (n : ℕ). splice area at n (first ++ second)) (sym (length-append first second));
    }

-- a text added to nothing is a line
pub adds-shows : (area text area' : List ℕ) (end : ℕ) → Adds area 0 text area' end → Shows text area area' end
unfolding splice
adds-shows area text area' end a =
    let long : end ≡ length text = omega (arith, a.end_is) in
    record { end_is = long; within = a.within; area_is = a.area_is ∙ ap (λ (n : ℕ). text ++ drop n area) (sym long) }

-- a text at the start of a part
text_in-part : (area : List ℕ) (at count : ℕ) (text : List ℕ) → at + count ≤ length area → length text ≤ count
    → splice area at count (text ++ drop (length text) (part area at count)) ≡ splice area at (length text) text
unfolding splice part
text_in-part area at count text fits few =
    ap (λ (l : List ℕ). take at area ++ l)
    (append_assoc text (drop (length text) (take count (drop at area))) (drop count (drop at area)) ∙ ap (λ (l : List ℕ). text ++ l) rest)
  where
    long : length text ≤ length (take count (drop at area))
    long = simp (length-take, length-drop) (omega arith)

    rest : drop (length text) (take count (drop at area)) ++ drop count (drop at area) ≡ drop (length text) (drop at area)
    rest =
        sym (drop-append-le (length text) (take count (drop at area)) (drop count (drop at area)) long)
        ∙ ap (drop (length text)) (take-append-drop count (drop at area))

-- a line in a lent part is added to the area
pub adds-lent : (area : List ℕ) (at count : ℕ) (text part' area' : List ℕ) (end : ℕ) → at + count ≤ length area
    → Shows text (part area at count) part' end → area' ≡ splice area at count part' → Adds area at text area' (at + end)
adds-lent area at count text part' area' end fits s e =
    let few : end ≤ count = omega (arith, s.within, length_part area at count fits) in
    record {
      end_is = ap (λ (n : ℕ). at + n) s.end_is;
      within = omega arith;
      area_is =
          e
          ∙ ap (splice area at count) (s.area_is ∙ ap (λ (n : ℕ). text ++ drop n (part area at count)) s.end_is)
          ∙ text_in-part area at count text fits (omega (arith, s.end_is));
    }

-- the digits of a number, as the kit wrote them, are added
pub adds-number : (area : List ℕ) (at : ℕ) (digits area' : List ℕ) (end number : ℕ) → number < 2 ^ 64 → digits ≡ kit.decimal number
    → Adds area at digits area' end → Adds area at (decimal number) area' end × (end ≤ at + 20)
adds-number area at digits area' end number small e a = (
  subst (λ (l : List ℕ). Adds area at l area' end) (e ∙ spelled 19 number (omega arith) small) a,
  omega (arith, length-decimal-le 20 number (omega arith) (omega arith) small, ap length e, a.end_is),
)

-- the text that an enum's variant stands for
pub adds-as : {A : Type 0} (text : A → List ℕ) (area : List ℕ) (at : ℕ) (x y : A) (area' : List ℕ) (end : ℕ) → x ≡ y → Adds area at (text y) area' end → Adds area at (text x) area' end
adds-as text area at x y area' end e a = subst (λ z. Adds area at (text z) area' end) (sym e) a
