-- The lines of a log, joined one by one.
-- Assumes nothing.
use mathlib.Core.Path.{◌≡◌, refl, sym, ap, subst, ◌∙◌}
use mathlib.Core.List.{List, [], ◌∷◌, ◌++◌, flatten, append_assoc, append-nil}
use Prim.Native.Nat.{ℕ, suc, ◌+◌, ◌-◌, ◌*◌, ◌≤◌, ◌<◌}
use native.Mathlib.Omega.{arith}
use lib.ListN.{length, take, drop, get_or}
use lib.Seq.{take-suc, take_all}
use borrow.Rule.Slice.PartMut.{put_mid}
use Rattle.area.specs.Part.{part}
use Rattle.area.proofs.Parts.{lent, from-to, length_part}
use Rattle.lines.specs.Text.{Adds, Shows}
use Rattle.lines.proofs.Adding.{adds-nothing, adds-both, adds-lent, adds-shows}

flatten-snoc : (lines : List (List ℕ)) (line : List ℕ) → flatten (lines ++ (line ∷ [])) ≡ flatten lines ++ line
unfolding flatten
flatten-snoc [] line = append-nil line
flatten-snoc (first ∷ lines) line = ap (λ (l : List ℕ). first ++ l) (flatten-snoc lines line) ∙ sym (append_assoc first (flatten lines) line)

module _ (lines : List (List ℕ)) (area : List ℕ) where
  -- no line yet
  pub joins-none : Adds area 0 (flatten (take 0 lines)) area 0
  unfolding flatten
  joins-none = adds-nothing area

  -- one line more
  joins-line : (area' area'' : List ℕ) (index at end : ℕ) → index < length lines → Adds area 0 (flatten (take index lines)) area' at
      → Adds area' at (get_or lines index []) area'' end → Adds area 0 (flatten (take (index + 1) lines)) area'' end
  joins-line area' area'' index at end h done line =
      subst (λ (text : List ℕ). Adds area 0 text area'' end) (sym more)
      (adds-both area 0 (flatten (take index lines)) area' at (get_or lines index []) area'' end done line)
    where
      next : index + 1 ≡ suc index
      next = omega arith

      more : flatten (take (index + 1) lines) ≡ flatten (take index lines) ++ get_or lines index []
      more = ap (λ (n : ℕ). flatten (take n lines)) next ∙ ap flatten (take-suc lines index [] h) ∙ flatten-snoc (take index lines) (get_or lines index [])

  -- one line more, written into a lent part
  pub joins_lent : (area' part' : List ℕ) (index at end : ℕ) → index < length lines → at ≤ index * 160 → at + 160 ≤ length area'
      → Adds area 0 (flatten (take index lines)) area' at → Shows (get_or lines index []) (take (at + 160 - at) (drop at area')) part' end
      → (at + end ≤ (index + 1) * 160) × Adds area 0 (flatten (take (index + 1) lines)) (put_mid at (at + 160 - at) area' part') (at + end)
  joins_lent area' part' index at end h few fits done line =
      let shown : Shows (get_or lines index []) (part area' at 160) part' end =
      subst (λ (l : List ℕ). Shows (get_or lines index []) l part' end) (from-to area' at 160) line in (
        omega (arith, shown.within, length_part area' at 160 fits),
        joins-line area' (put_mid at (at + 160 - at) area' part') index at (at + end) h done
            (adds-lent area' at 160 (get_or lines index []) part' (put_mid at (at + 160 - at) area' part') end fits shown (lent area' at 160 part' part' refl)),
      )

  -- all lines
  pub joins-all : (area' : List ℕ) (index end : ℕ) → length lines ≤ index → Adds area 0 (flatten (take index lines)) area' end
      → Shows (flatten lines) area area' end
  joins-all area' index end h done =
      subst (λ (all : List (List ℕ)). Shows (flatten all) area area' end) (take_all index lines h) (adds-shows area (flatten (take index lines)) area' end done)
