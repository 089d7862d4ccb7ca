-- A Begin that waits is accepted in the end, where `WaitBound` says so.
-- Assumes nothing.
use mathlib.Core.Path.{◌≡◌, refl, sym, ap, ◌∙◌, subst}
use Prim.Native.Nat.{ℕ, zero, suc, ◌+◌, ◌*◌, ◌^◌, ◌≤◌, ◌<◌}
use native.Mathlib.Omega.{arith}
use Rattle.area.proofs.Laws.{by-eq}
use Rattle.promises.specs.Sums.{dirty_count, waiting_blocks}
use Rattle.promises.specs.LogStep.{log_refusal_of}
use Rattle.promises.specs.CleanStep.{clean_refusal_of}
use Rattle.promises.specs.Begin.{begin_refusal}
use Rattle.promises.specs.Events.{World, log_step, clean_step, Beginning, Logging, Cleaning}
use Rattle.promises.specs.Answers.{Reply, refuses, done, accepts}
use Rattle.promises.specs.Claim.{promised}
use Rattle.promises.specs.Waiting.{Fitting}
use Rattle.promises.proofs.Replies.{accepted-by}
use Rattle.promises.proofs.Replies.{no-accept, same-refusal}
use Rattle.promises.proofs.RefusedCalls.{begin-refused, log-refused, clean-refused}
use Rattle.promises.proofs.LogTurns.{log-nothing}
use Rattle.promises.proofs.CleanTurns.{clean-nothing}
use Rattle.promises.proofs.Refines.{Refines}
use Rattle.promises.proofs.WaitBound.{Full, is-full, Logs, Cleans, none-waits, from-logs, begin-passes, none_left, log-one, clean-one, start-logs, room-left}
use Rattle.waiting.specs.Waiting.{Until, refused, accepted, Tries, at_once, stops_logging, stops_cleaning, again}

itself : Refines promised
itself = record { formats = λ log answer log' x. x; steps = λ call world reply world' x. x }

-- ---- the log steps: W of them, and the next is refused with 10
pub record Logged (N F c n k r : ℕ) (w' : World) : Type 0 where
  pub count : k ≡ n
  pub refusal : r ≡ 10
  pub leads : Logs N F c 0 w'

-- no block waits: a Log step is refused with 10
log-ten : (N F c : ℕ) (w w' : World) (a : Reply) → Logging w a w' → Logs N F c 0 w → (a ≡ refuses 10) × (w' ≡ w)
log-ten N F c w w' a st p =
    let ten : log_refusal_of w.state w.log w.home w.frames w.staging ≡ 10 = log-nothing w p.is_sound p.fits (none-waits N F c w p).0 in
    let x = log-refused w w' a st (λ z. absurd (omega (arith, ten, z))) in
    (x.0 ∙ ap refuses ten, x.1)

logs-until : (N F c n k r : ℕ) (w w' : World) → Until promised log_step k w r w' → Logs N F c n w → Logged N F c n k r w'
logs-until N F c zero k r w w' (refused st) p =
    let x = log-ten N F c w w' (refuses r) st p in
    record { count = refl; refusal = same-refusal x.0; leads = subst (Logs N F c 0) (sym x.1) p }
logs-until N F c (suc n) k r w w' (refused st) p = no-accept (log-one promised itself N F c n w w' (refuses r) st p).0
logs-until N F c zero k r w w' (accepted {world' = v} a st ok rest) p = no-accept (sym (ap accepts (log-ten N F c w v a st p).0) ∙ ok)
logs-until N F c (suc n) k r w w' (accepted {count = m} {world' = v} a st ok rest) p =
    let l = logs-until N F c n m r v w' rest (log-one promised itself N F c n w v a st p).1 in
    record { count = ap suc l.count; refusal = l.refusal; leads = l.leads }

-- ---- the clean steps: until none is dirty, and the next is refused with 10
pub record Cleaned (N F c n k r : ℕ) (w' : World) : Type 0 where
  pub count : k ≤ n
  pub refusal : r ≡ 10
  pub none_dirty : dirty_count w'.state ≡ 0
  pub leads : Cleans N F c n w'

more_left : (N F c n m : ℕ) (w : World) → n ≤ m → Cleans N F c n w → Cleans N F c m w
more_left N F c n m w h p = record {
  is_sound = p.is_sound;
  fits = p.fits;
  closed = p.closed;
  queued = p.queued;
  stored = p.stored;
  left = omega (arith, p.left);
  next = p.next;
  slots_are = p.slots_are;
  frames_are = p.frames_are;
}

-- none is dirty: a Clean step is refused with 10
clean-ten : (N F c n : ℕ) (w w' : World) (a : Reply) → Cleaning w a w' → Cleans N F c n w → dirty_count w.state ≡ 0 → (a ≡ refuses 10) × (w' ≡ w)
clean-ten N F c n w w' a st p d =
    let ten : clean_refusal_of w.state w.log w.home w.frames ≡ 10 = clean-nothing w p.is_sound p.fits d in
    let x = clean-refused w w' a st (λ z. absurd (omega (arith, ten, z))) in
    (x.0 ∙ ap refuses ten, x.1)

cleans-over : (N F c n r : ℕ) (w w' : World) → Cleaning w (refuses r) w' → Cleans N F c n w → dirty_count w.state ≡ 0 → Cleaned N F c n 0 r w'
cleans-over N F c n r w w' st p d =
    let x = clean-ten N F c n w w' (refuses r) st p d in
    record {
      count = omega arith;
      refusal = same-refusal x.0;
      none_dirty = ap (λ (v : World). dirty_count v.state) x.1 ∙ d;
      leads = subst (Cleans N F c n) (sym x.1) p;
    }

cleans-until : (N F c n k r : ℕ) (w w' : World) → c < 2 ^ 48 → Until promised clean_step k w r w' → Cleans N F c n w → Cleaned N F c n k r w'
cleans-until N F c zero k r w w' below (refused st) p = cleans-over N F c zero r w w' st p (none_left w.state p.left)
cleans-until N F c (suc n) k r w w' below (refused st) p = by-eq (dirty_count w.state) 0
    (λ d. cleans-over N F c (suc n) r w w' st p d)
    (λ d. no-accept (clean-one promised itself N F c n w w' (refuses r) below st p d).0)
cleans-until N F c zero k r w w' below (accepted {world' = v} a st ok rest) p =
    no-accept (sym (ap accepts (clean-ten N F c zero w v a st p (none_left w.state p.left)).0) ∙ ok)
cleans-until N F c (suc n) k r w w' below (accepted {count = m} {world' = v} a st ok rest) p = by-eq (dirty_count w.state) 0
    (λ d. no-accept (sym (ap accepts (clean-ten N F c (suc n) w v a st p d).0) ∙ ok))
    (λ d.
    let l = cleans-until N F c n m r v w' below rest (clean-one promised itself N F c n w v a below st p d).1 in
    record { count = omega (arith, l.count); refusal = l.refusal; none_dirty = l.none_dirty; leads = more_left N F c n (suc n) w' (omega arith) l.leads })

-- ---- all of it
pub record Ends (w : World) (logged cleaned : ℕ) (a : Reply) : Type 0 where
  pub reply : a ≡ done
  pub logs : logged ≡ waiting_blocks w.state
  pub cleans : cleaned ≤ 3 * w.state.frames

module _ (w : World) (u : ℕ) (fit : Fitting w) (far : w.state.next + 4096 ≤ 2 ^ 48) (five : begin_refusal w.state u ≡ 5) where
  full : Full w.state u
  full = is-full w.state u five

  abbrev last : ℕ
  last = w.state.next + waiting_blocks w.state

  -- the Begin that is refused leaves the world as it was
  begins : (v : World) → Beginning w u (refuses 5) v → Logs w.state.slots w.state.frames last (waiting_blocks w.state) v
  begins v st =
      let same : v ≡ w = (begin-refused w v (refuses 5) u st (λ z. absurd (omega (arith, five, z)))).1 in
      subst (Logs w.state.slots w.state.frames last (waiting_blocks w.state)) (sym same) (start-logs w (waiting_blocks w.state) refl fit full.is_sound full.closed)

  logged-out : (v v' : World) (k r : ℕ) → Beginning w u (refuses 5) v → Until promised log_step k v r v' → Logged w.state.slots w.state.frames last (waiting_blocks w.state) k r v'
  logged-out v v' k r st logs = logs-until w.state.slots w.state.frames last (waiting_blocks w.state) k r v v' logs (begins v st)

  room : last + w.state.frames + 17 ≤ 2 ^ 48
  room = room-left w.state (waiting_blocks w.state) refl full.is_sound (omega (arith, far))

  cleaned-out : (v' v'' : World) (k r : ℕ) → Logs w.state.slots w.state.frames last 0 v' → Until promised clean_step k v' r v''
      → Cleaned w.state.slots w.state.frames (last + w.state.frames) (3 * w.state.frames) k r v''
  cleaned-out v' v'' k r p cleans =
      cleans-until w.state.slots w.state.frames (last + w.state.frames) (3 * w.state.frames) k r v' v'' (omega (arith, room)) cleans
      (from-logs w.state.slots w.state.frames last (3 * w.state.frames) v' (omega arith) p)

  pub served : (logged cleaned : ℕ) (a : Reply) (w' : World) → Tries promised u w logged cleaned a w' → Ends w logged cleaned a
  served logged cleaned a w' (at_once st other) = absurd (other ((begin-refused w w' a u st (λ z. absurd (omega (arith, five, z)))).0 ∙ ap refuses five))
  served logged cleaned a w' (stops_logging {full = v} {refusal = r} st logs other) = absurd (other (logged-out v w' logged r st logs).refusal)
  served logged cleaned a w' (stops_cleaning {full = v} {drained = v'} {refusal = r} st logs cleans other) =
      let l = logged-out v v' logged 10 st logs in
      absurd (other (cleaned-out v' w' cleaned r l.leads cleans).refusal)
  served logged cleaned a w' (again {full = v} {drained = v'} {clean = v''} st logs cleans last') =
      let l = logged-out v v' logged 10 st logs in
      let c = cleaned-out v' v'' cleaned 10 l.leads cleans in
      record {
        reply = last'.reply_is ∙ accepted-by _ _ _ last'.promise.answer_is (begin-passes w.state.slots w.state.frames (last + w.state.frames) (3 * w.state.frames) u v'' room full.asks c.leads c.none_dirty);
        logs = l.count;
        cleans = c.count;
      }
