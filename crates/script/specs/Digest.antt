-- The digest of bytes: h is 0 at first, and (h * 257 + byte + 1) % 4,294,967,291 for each byte.
-- Assumes nothing.
use Rattle.std.specs.Prelude.{ℕ, ◌+◌, ◌*◌, ◌%◌, List, [], ◌∷◌}

-- from a digest on
unfoldable pub digest_from : ℕ → List ℕ → ℕ
digest_from h [] = h
digest_from h (byte ∷ bytes) = digest_from ((h * 257 + byte + 1) % 4294967291) bytes

abbrev pub digest_of : List ℕ → ℕ
digest_of bytes = digest_from 0 bytes
