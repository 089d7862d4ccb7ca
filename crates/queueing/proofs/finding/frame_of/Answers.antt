-- `finding::frame_of` meets its contract. The loop's invariant: the page is held where it is held in what is left.
-- Assumes nothing.
use mathlib.Core.Path.{◌≡◌, ◌∙◌}
use lib.ListN.{length}
use lib.Seq.{length-take-le, get_or-take}
use Rattle.promises.specs.States.{free}
use Rattle.promises.proofs.Soundness.{sound-as-of}
use Rattle.soundness.proofs.Scans.{length-mapped}
use Rattle.queueing.proofs.Places.{held-here, held-later, held-home, frames_most}
use borrow.Author.Rules.{rules}
use native.Mathlib.Omega.{arith}
use Rattle.queueing.proofs.finding.frame_of.Goals as goal

pub returns-then-entry-page-clause-held : goal.returns-then-entry-page-clause-held
returns-then-entry-page-clause-held c =
    let s = c.args.state in
    let at = c.loop-frame in
    let few = frames_most s c.requires in
    let long : length s.dirty ≡ 32 = search (rules, length-mapped) in
    let cut = length-take-le s.frames s.dirty (omega arith) in
    let same = get_or-take s.frames s.dirty at.frame free (omega arith) in
    at.invariant ∙ held-here c.args.page s.dirty at.frame (omega arith) (rw same at c.if-entry-page.true)

pub loop-frame-preserved : goal.loop-frame-preserved
loop-frame-preserved c =
    let s = c.args.state in
    let at = c.loop-frame in
    let few = frames_most s c.requires in
    let long : length s.dirty ≡ 32 = search (rules, length-mapped) in
    let cut = length-take-le s.frames s.dirty (omega arith) in
    let same = get_or-take s.frames s.dirty at.frame free (omega arith) in
    at.invariant ∙ held-later c.args.page s.dirty at.frame (omega arith) (rw same at c.if-entry-page.false)

pub returns-clause-held : goal.returns-clause-held
returns-clause-held c =
    let s = c.args.state in
    let at = c.loop-frame in
    let few = frames_most s c.requires in
    let f = sound-as-of s.copy s c.requires in
    let long : length s.dirty ≡ 32 = search (rules, length-mapped) in
    let cut = length-take-le s.frames s.dirty (omega arith) in
    let all : at.frame ≡ s.frames = omega arith in
    at.invariant ∙ held-home c.args.page s.frames at.frame s.dirty all f.frames_below
