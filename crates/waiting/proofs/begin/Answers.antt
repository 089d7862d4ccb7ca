-- `begin` meets its contract: each way in which it ends is one of those that it may try.
-- Assumes nothing.
use mathlib.Core.Path.{sym, ◌∙◌}
use Rattle.waiting.proofs.Tried.{same-nothing, not-nothing, is-full, not-full, waits-at-once, waits-logging, waits-cleaning, waits-again}
use Rattle.waiting.proofs.begin.Goals as goal

pub returns-then-ne : goal.returns-then-ne
returns-then-ne c = waits-at-once _ _ _ _ _ _ _ c.begin-first.ensures (not-full _ _ (sym c.ne.ensures ∙ c.if-ne.true))

pub returns-then-ne-2 : goal.returns-then-ne-2
returns-then-ne-2 c = waits-logging _ _ _ _ _ _ _ c.begin-first.ensures (is-full _ _ (sym c.ne.ensures ∙ c.if-ne.false)) _ _ _ c.log_all-logs.ensures
    (not-nothing _ (sym c.ne-2.ensures ∙ c.if-ne-2.true))

pub returns-then-ne-3 : goal.returns-then-ne-3
returns-then-ne-3 c = waits-cleaning _ _ _ _ _ _ _ c.begin-first.ensures (is-full _ _ (sym c.ne.ensures ∙ c.if-ne.false)) c.log_all-logs.result _ _ c.log_all-logs.ensures
    (same-nothing _ (sym c.ne-2.ensures ∙ c.if-ne-2.false)) c.clean_all-cleans.result _ _ c.clean_all-cleans.ensures (not-nothing _ (sym c.ne-3.ensures ∙ c.if-ne-3.true))

pub returns : goal.returns
returns c = waits-again _ _ _ _ _ _ _ c.begin-first.ensures (is-full _ _ (sym c.ne.ensures ∙ c.if-ne.false)) c.log_all-logs.result _ _ c.log_all-logs.ensures
    (same-nothing _ (sym c.ne-2.ensures ∙ c.if-ne-2.false)) c.clean_all-cleans.result _ _ c.clean_all-cleans.ensures (same-nothing _ (sym c.ne-3.ensures ∙ c.if-ne-3.false)) _ c.begin-last.ensures
