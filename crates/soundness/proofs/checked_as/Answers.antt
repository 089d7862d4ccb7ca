-- `checked_as` meets its contract: the tests together are soundness, and one pass over the frames gives their sums.
-- Assumes nothing.
use mathlib.Core.Path.{◌≡◌, refl, sym, ◌∙◌}
use mathlib.Core.Bool.{Bool, true, false, ◌&&◌}
use Prim.Native.Nat.{◌+◌}
use lib.ListN.{length, take}
use Rattle.promises.specs.declared.State.{State}
use Rattle.promises.specs.Contents.{groups_of}
use Rattle.promises.specs.Sound.{sizes_legal, sound_as}
use Rattle.soundness.specs.Tests.{in_range, fitting, kind_legal, counts_legal, pages_legal, waiting_legal}
use Rattle.soundness.proofs.Scans.{length-mapped}
use Rattle.soundness.proofs.Counts.{addable, summed, sums-small, counts-range, counts-groups, counts-fit}
use Rattle.soundness.proofs.Decided.{told, surveyed, none-waiting, unsound, decided}
use borrow.Author.Rules.{rules}
use Rattle.soundness.proofs.checked_as.Goals as goal
use Rattle.soundness.proofs.checked_as.Goals.{else-count-ne0-via-then-count-ne0+else-not-staged_sound, else-count-ne0-via-else-count-ne0}

-- the counts are legal where the numbers are in range, the groups and the kind legal and the sums within the sizes
counts : (copy : Bool) (s : State) (within legal kind fits : Bool) → within ≡ in_range s → within ≡ true → legal ≡ sizes_legal (groups_of s) → kind ≡ kind_legal copy s
    → (legal && kind) ≡ true → fits ≡ fitting s → counts_legal copy s ≡ fits
counts copy s within legal kind fits w t l k p f = sym (counts-fit copy s (sym w ∙ t) (sym (told copy s legal kind l k) ∙ p)) ∙ sym f

pub returns-then-not-in_range : goal.returns-then-not-in_range
returns-then-not-in_range c =
    let s = c.args.state in
    let copy = c.args.copy in
    let groups : length s.groups ≡ 32 = search rules in
    let staged : length s.staged ≡ 32 = search (rules, length-mapped) in
    sym (unsound copy s groups staged (sym (counts-range copy s (sym c.in_range.ensures ∙ c.if-not-in_range.true))))

pub returns-then-not-sizes-kind_legal : goal.returns-then-not-sizes-kind_legal
returns-then-not-sizes-kind_legal c =
    let s = c.args.state in
    let copy = c.args.copy in
    let groups : length s.groups ≡ 32 = search rules in
    let staged : length s.staged ≡ 32 = search (rules, length-mapped) in
    let bad = sym (told copy s _ _ c.sizes_of-sizes.ensures.0 c.kind_legal.ensures) ∙ c.if-not-sizes-kind_legal.true in
    sym (unsound copy s groups staged (sym (counts-groups copy s (sym c.in_range.ensures ∙ c.if-not-in_range.false) bad)))

pub fit-requires : goal.fit-requires
fit-requires c =
    let s = c.args.state in
    let groups : length s.groups ≡ 32 = search rules in
    let numbers = addable s (sym c.in_range.ensures ∙ c.if-not-in_range.false) in
    let survey = c.survey_of-survey.ensures in
    let sizes = c.sizes_of-sizes.ensures in
    (numbers, summed s _ _ _ _ groups numbers survey.3 (survey.1, survey.2) (sizes.2, sizes.3) c.saturating_sub.ensures)

pub returns-then-not-fit : goal.returns-then-not-fit
returns-then-not-fit c =
    let s = c.args.state in
    let copy = c.args.copy in
    let groups : length s.groups ≡ 32 = search rules in
    let staged : length s.staged ≡ 32 = search (rules, length-mapped) in
    let misfit = counts copy s _ _ _ _ c.in_range.ensures c.if-not-in_range.false c.sizes_of-sizes.ensures.0 c.kind_legal.ensures c.if-not-sizes-kind_legal.false c.fit.ensures in
    sym (unsound copy s groups staged (misfit ∙ c.if-not-fit.true))

pub returns-then-not-pages_sound : goal.returns-then-not-pages_sound
returns-then-not-pages_sound c =
    let s = c.args.state in
    let copy = c.args.copy in
    let groups : length s.groups ≡ 32 = search rules in
    let staged : length s.staged ≡ 32 = search (rules, length-mapped) in
    let survey = c.survey_of-survey.ensures in
    let sizes = c.sizes_of-sizes.ensures in
    let fits = counts copy s _ _ _ _ c.in_range.ensures c.if-not-in_range.false sizes.0 c.kind_legal.ensures c.if-not-sizes-kind_legal.false c.fit.ensures ∙ c.if-not-fit.false in
    let pages : false ≡ pages_legal s = sym c.if-not-pages_sound.true ∙ c.pages_sound.ensures ∙ surveyed s _ _ survey.0 survey.5 in
    sym (decided copy s groups staged fits _ false _ sizes.2 pages refl)

pub returns-then-not-staged_sound : goal.returns-then-not-staged_sound
returns-then-not-staged_sound c =
    let s = c.args.state in
    let copy = c.args.copy in
    let groups : length s.groups ≡ 32 = search rules in
    let staged : length s.staged ≡ 32 = search (rules, length-mapped) in
    let survey = c.survey_of-survey.ensures in
    let sizes = c.sizes_of-sizes.ensures in
    let fits = counts copy s _ _ _ _ c.in_range.ensures c.if-not-in_range.false sizes.0 c.kind_legal.ensures c.if-not-sizes-kind_legal.false c.fit.ensures ∙ c.if-not-fit.false in
    let pages : true ≡ pages_legal s = sym c.if-not-pages_sound.false ∙ c.pages_sound.ensures ∙ surveyed s _ _ survey.0 survey.5 in
    sym (decided copy s groups staged fits _ true false sizes.2 pages (sym c.if-not-staged_sound.true ∙ c.staged_sound.ensures))

pub returns : goal.returns
returns c =
    let s = c.args.state in
    let copy = c.args.copy in
    let groups : length s.groups ≡ 32 = search rules in
    let staged : length s.staged ≡ 32 = search (rules, length-mapped) in
    let survey = c.survey_of-survey.ensures in
    let sizes = c.sizes_of-sizes.ensures in
    let fits = counts copy s _ _ _ _ c.in_range.ensures c.if-not-in_range.false sizes.0 c.kind_legal.ensures c.if-not-sizes-kind_legal.false c.fit.ensures ∙ c.if-not-fit.false in
    let sums = summed s _ _ _ _ groups (addable s (sym c.in_range.ensures ∙ c.if-not-in_range.false)) survey.3 (survey.1, survey.2) (sizes.2, sizes.3) c.saturating_sub.ensures in
    let pages : true ≡ pages_legal s = sym c.if-not-pages_sound.false ∙ c.pages_sound.ensures ∙ surveyed s _ _ survey.0 survey.5 in
    let waiting : true ≡ waiting_legal s.pages s.frames (take (c.sizes_of-sizes.result.updates + s.described) s.staged) =
    elim c.else-count-ne0.branch [
      | else-count-ne0-via-then-count-ne0+else-not-staged_sound w ↦ sym w.if-not-staged_sound.false ∙ w.staged_sound.ensures
      | else-count-ne0-via-else-count-ne0 w ↦ none-waiting s.pages s.frames s.staged (c.sizes_of-sizes.result.updates + s.described) w.if-count-ne0.false
    ] in
    let sound : sound_as copy s ≡ true = sym (decided copy s groups staged fits _ true true sizes.2 pages waiting) in
    (sound, sums, sums-small copy s _ sound sums)
