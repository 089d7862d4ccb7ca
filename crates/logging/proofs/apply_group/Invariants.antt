-- `logging::apply_group` meets its contract: what the loop still has to apply makes the whole.
use mathlib.Core.Bool.{false}
use Rattle.table.specs.Seats.{seated}
use Rattle.logging.proofs.Applied.{LeftTo}
use Rattle.logging.proofs.apply_group.Given as goal

abbrev pub invariant-loop-update : goal.invariant-loop-update
invariant-loop-update l =
    LeftTo l.fn.staged l.size l.home l.staging l.group (seated false l.initial.seats) l.initial.frames (seated false l.seats) l.frames l.update-index
