-- Where a page is held, and what is found of it: in no frame it is not dirty, in a frame it has that frame's entry and bytes.
-- Assumes nothing.
use mathlib.Core.Path.{◌≡◌, refl, sym, ap, ◌∙◌}
use mathlib.Core.Bool.{Bool, true, false, cond, not, ◌&&◌}
use mathlib.Core.List.{List, [], ◌∷◌}
use Prim.Native.Nat.{ℕ, zero, suc, ◌+◌}
use native.Mathlib.Omega.{arith}
use lib.Dec.{eqb}
use lib.ListN.{get_or}
use Rattle.promises.specs.declared.Dirty.{Dirty}
use Rattle.promises.specs.Areas.{page_at}
use Rattle.promises.specs.DirtyPages.{absent, at, look_up}
use Rattle.promises.specs.Contents.{unless, dirty_from}
use Rattle.promises.specs.Read.{at_home, in_frame, held_in}
use Rattle.promises.specs.States.{free, is_of, freed}

no-frame : {X : Type 0} (f : ℕ) → in_frame f ≡ at_home → X
no-frame f e = let z : ◌≡◌ {A = ℕ} 0 1 = cc in absurd (omega arith)

no-home : {X : Type 0} (f : ℕ) → at_home ≡ in_frame f → X
no-home f e = let z : ◌≡◌ {A = ℕ} 0 1 = cc in absurd (omega arith)

same-frame : (f g : ℕ) → in_frame f ≡ in_frame g → f ≡ g
same-frame f g e = cc

look-home : (page frame : ℕ) (frames : List ℕ) (ds : List Dirty) → held_in page frame ds ≡ at_home → look_up page (dirty_from frames frame ds) ≡ absent
unfolding held_in look_up dirty_from
look-home page frame frames [] e = refl
look-home page frame frames (d ∷ ds) e = go (eqb d.first 0) (eqb page d.page) refl (λ q. look-home page (suc frame) frames ds q) e
  where
    go : (b c : Bool) → eqb page d.page ≡ c → (held_in page (suc frame) ds ≡ at_home → look_up page (dirty_from frames (suc frame) ds) ≡ absent)
        → cond (not b && c) (in_frame frame) (held_in page (suc frame) ds) ≡ at_home
        → look_up page (unless b (record { page = d.page; first = d.first; bytes = page_at frames frame }) (dirty_from frames (suc frame) ds)) ≡ absent
    go true c q ih e = ih e
    go false true q ih e = no-frame frame e
    go false false q ih e = rw q (ih e)

-- nor is a frame of its own set free
free-home : (page frame : ℕ) (ds : List Dirty) → held_in page frame ds ≡ at_home → freed page ds ≡ ds
unfolding held_in freed
free-home page frame [] e = refl
free-home page frame (d ∷ ds) e = go (is_of page d) e (free-home page (suc frame) ds)
  where
    go : (b : Bool) → cond b (in_frame frame) (held_in page (suc frame) ds) ≡ at_home → (held_in page (suc frame) ds ≡ at_home → freed page ds ≡ ds)
        → cond b free d ∷ freed page ds ≡ d ∷ ds
    go true e ih = no-frame frame e
    go false e ih = ap (λ (l : List Dirty). d ∷ l) (ih e)

-- the frame, counted from the list's first
pub record InFrame (page frame : ℕ) (frames : List ℕ) (ds : List Dirty) (g : ℕ) : Type 0 where
  pub behind : ℕ
  pub frame_is : g ≡ frame + behind
  pub is_page : is_of page (get_or ds behind free) ≡ true
  pub found : look_up page (dirty_from frames frame ds) ≡ at (record { page = (get_or ds behind free).page; first = (get_or ds behind free).first; bytes = page_at frames g })

look-frame : (page frame : ℕ) (frames : List ℕ) (ds : List Dirty) (g : ℕ) → held_in page frame ds ≡ in_frame g → InFrame page frame frames ds g
unfolding held_in look_up dirty_from
look-frame page frame frames [] g e = no-home g e
look-frame page frame frames (d ∷ ds) g e = go (eqb d.first 0) (eqb page d.page) refl refl (λ q. look-frame page (suc frame) frames ds g q) e
  where
    rest : eqb d.first 0 ≡ true → InFrame page (suc frame) frames ds g → InFrame page frame frames (d ∷ ds) g
    rest q r = record {
      behind = suc r.behind;
      frame_is = omega (arith, r.frame_is);
      is_page = r.is_page;
      found = ap (λ (b : Bool). look_up page (unless b (record { page = d.page; first = d.first; bytes = page_at frames frame }) (dirty_from frames (suc frame) ds))) q ∙ r.found;
    }

    other : eqb d.first 0 ≡ false → eqb page d.page ≡ false → InFrame page (suc frame) frames ds g → InFrame page frame frames (d ∷ ds) g
    other q p r = record {
      behind = suc r.behind;
      frame_is = omega (arith, r.frame_is);
      is_page = r.is_page;
      found = ap (λ (b : Bool). look_up page (unless b (record { page = d.page; first = d.first; bytes = page_at frames frame }) (dirty_from frames (suc frame) ds))) q
          ∙ ap (λ (b : Bool). cond b (at (record { page = d.page; first = d.first; bytes = page_at frames frame })) (look_up page (dirty_from frames (suc frame) ds))) p ∙ r.found;
    }

    here : eqb d.first 0 ≡ false → eqb page d.page ≡ true → frame ≡ g → InFrame page frame frames (d ∷ ds) g
    here q p s = record {
      behind = zero;
      frame_is = omega arith;
      is_page = ap (λ (b : Bool). not b && eqb page d.page) q ∙ p;
      found = ap (λ (b : Bool). look_up page (unless b (record { page = d.page; first = d.first; bytes = page_at frames frame }) (dirty_from frames (suc frame) ds))) q
          ∙ ap (λ (b : Bool). cond b (at (record { page = d.page; first = d.first; bytes = page_at frames frame })) (look_up page (dirty_from frames (suc frame) ds))) p
          ∙ ap (λ (f : ℕ). at (record { page = d.page; first = d.first; bytes = page_at frames f })) s;
    }

    go : (b c : Bool) → eqb d.first 0 ≡ b → eqb page d.page ≡ c → (held_in page (suc frame) ds ≡ in_frame g → InFrame page (suc frame) frames ds g)
        → cond (not b && c) (in_frame frame) (held_in page (suc frame) ds) ≡ in_frame g → InFrame page frame frames (d ∷ ds) g
    go true c q p ih e = rest q (ih e)
    go false true q p ih e = here q p (same-frame frame g e)
    go false false q p ih e = other q p (ih e)

-- ---- from the search over the frames
module _ (page : ℕ) (frames : List ℕ) (ds : List Dirty) (e : held_in page 0 ds ≡ at_home) where
  pub not-dirty : look_up page (dirty_from frames 0 ds) ≡ absent
  not-dirty = look-home page 0 frames ds e

  pub not-freed : freed page ds ≡ ds
  not-freed = free-home page 0 ds e

pub in_frame_lem : (page frame : ℕ) (frames : List ℕ) (ds : List Dirty) → held_in page 0 ds ≡ in_frame frame → (is_of page (get_or ds frame free) ≡ true)
    × (look_up page (dirty_from frames 0 ds) ≡ at (record { page = (get_or ds frame free).page; first = (get_or ds frame free).first; bytes = page_at frames frame }))
in_frame_lem page frame frames ds e =
    let r = look-frame page 0 frames ds frame e in
    let b : r.behind ≡ frame = omega (arith, r.frame_is) in (
      ap (λ (n : ℕ). is_of page (get_or ds n free)) (sym b) ∙ r.is_page,
      r.found ∙ ap (λ (n : ℕ). at (record { page = (get_or ds n free).page; first = (get_or ds n free).first; bytes = page_at frames frame })) b,
    )
