-- `digest` meets its contract: the digest of all bytes is that of the bytes to come from h on.
-- Assumes nothing.
use mathlib.Core.Path.{◌≡◌, sym, ap, ◌∙◌}
use mathlib.Core.List.{List, ◌∷◌}
use Prim.Native.Nat.{ℕ, ◌+◌, ◌*◌, ◌%◌, ◌≤◌, ◌<◌}
use native.Mathlib.Omega.{arith}
use native.Mathlib.Numerals.{add-one}
use lib.ListN.{length, drop, get_or, drop_of_length-le}
use lib.Seq.{drop-cons}
use Rattle.script.specs.Digest.{digest_from, digest_of}
use Rattle.script.proofs.digest.Goals as goal

step : (bytes : List ℕ) (h i byte : ℕ) → i < length bytes → byte ≡ get_or bytes i 0
    → digest_from ((h * 257 + byte + 1) % 4294967291) (drop (i + 1) bytes) ≡ digest_from h (drop i bytes)
unfolding digest_from
step bytes h i byte l e =
    rw e (sym (ap (digest_from h) (drop-cons bytes i 0 l ∙ ap (λ (n : ℕ). get_or bytes i 0 ∷ drop n bytes) (sym (add-one i)))))

end : (bytes : List ℕ) (h i : ℕ) → length bytes ≤ i → digest_from h (drop i bytes) ≡ digest_of bytes → h ≡ digest_of bytes
unfolding digest_from
end bytes h i l e = sym (ap (digest_from h) (drop_of_length-le bytes l)) ∙ e

pub loop-byte-preserved : goal.loop-byte-preserved
loop-byte-preserved c =
    let l = c.loop-byte in
    (omega arith, step c.args.bytes.now l.h l.byte-index c.from.result (omega arith) c.from.ensures ∙ l.invariant.1)

pub returns : goal.returns
returns c = let l = c.loop-byte in end c.args.bytes.now l.h l.byte-index (omega arith) l.invariant.1
