-- EVERYTHING ACCEPTED BEFORE zeros were GIVES ITS OLD RESULT (document 02, (e)), for the calls that read bytes: document 01's load (`old_load`), and that a
-- load and the bundle call do what they did (`LoadsBefore`), refused ones included, unless document 01 met a zero off the diagonal (`LoadedAsBefore`). The
-- operations: crate operations, `CallsBefore`.
use Rattle.std.specs.Prelude.{ℕ, ◌≡◌, List, [], ◌∷◌, ◌++◌}
use Rattle.verdict.specs.declared.Reason.TheVariants.{FactorZero}
use Rattle.verdict.specs.Verdict.{first_of}
use Rattle.reader.specs.Matrix.{fault, behind_by, behind_of}
use Rattle.reader.specs.Before.{old_reading, ZeroOffDiagonal}
use Rattle.places.specs.declared.Shelf.{Shelf}
use Rattle.places.specs.Outcome.{Outcome}
use Rattle.places.specs.Tests.{target_tests}
use Rattle.shelf.specs.Calls.{changing, of_reading, read_to, load_call}

-- document 01's load: 1, 12, then its reading of the bytes
abbrev pub old_load : Shelf → ℕ → List ℕ → Outcome
old_load s p bytes = changing (first_of (target_tests s p ++ (of_reading bytes (old_reading bytes) ∷ []))) s (read_to s p (old_reading bytes))

-- THE OLD RESULT of a load, and of the bundle call
pub record LoadsBefore (bytes : List ℕ) : Type 0 where
  pub load-before : (s : Shelf) (p : ℕ) → load_call s p bytes ≡ old_load s p bytes
  pub rest-before : behind_of bytes ≡ behind_by bytes (old_reading bytes)

-- ANY BYTES: a load and the bundle call do what they did; or document 01's reading was 6, at a zero off the diagonal
pub data LoadedAsBefore (bytes : List ℕ) : Type 0 where
  same : LoadsBefore bytes → LoadedAsBefore bytes
  was-six : (o : ℕ) → old_reading bytes ≡ fault FactorZero o → ZeroOffDiagonal bytes o → LoadedAsBefore bytes
