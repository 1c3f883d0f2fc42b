-- The words of a line by their indices (`words-at`, `words-past`).
use Prim.Native.Nat.{ℕ, suc, ◌+◌, ◌≤◌, ◌<◌}
use native.Mathlib.Omega.{arith}
use mathlib.Core.Path.{◌≡◌, refl, sym, ap, ◌∙◌}
use mathlib.Core.Bool.{Bool, true, false}
use mathlib.Core.List.{List, [], ◌∷◌}
use lib.Dec.{ltb}
use lib.ListN.{length, drop}
use borrow.Author.Tests.{lt-ltb, le-ltb, ltb-true, ltb-false}
use Rattle.lines.specs.Words.{word_at, next_word}
use Rattle.lines.proofs.Words.{word-past}
use Rattle.lines.proofs.Parts.{parts_from, parts_first}
use Rattle.requests.specs.Words.{words_of, words_at, first_word, words_behind}

pub words-past : (s : List ℕ) (at : ℕ) → length s < at → words_at s at ≡ []
words-past s at h = rw (lt-ltb _ _ h)

pub words-at : (s : List ℕ) (at : ℕ) → at ≤ length s → words_at s at ≡ word_at s at ∷ words_at s (next_word s at)
words-at s at h =
    let e : at + length (word_at s at) + 1 ≡ at + suc (length (word_at s at)) = omega arith in
    rw (le-ltb (length s) at h, e) (parts_first 32 (drop at s) ∙ ap (λ ws. word_at s at ∷ ws) (parts_from 32 s at (suc (length (word_at s at))) h))

first_by : (s : List ℕ) (at : ℕ) (t : Bool) → ltb (length s) at ≡ t → first_word (words_at s at) ≡ word_at s at
first_by s at true e = rw e (sym (word-past s at (ltb-true _ _ e)))
first_by s at false e = rw (words-at s at (ltb-false _ _ e))

pub first-word : (s : List ℕ) (at : ℕ) → first_word (words_at s at) ≡ word_at s at
first-word s at = first_by s at (ltb (length s) at) refl

behind-by : (s : List ℕ) (at : ℕ) (t : Bool) → ltb (length s) at ≡ t → words_behind (words_at s at) ≡ words_at s (next_word s at)
behind-by s at true e = rw (e, e)
behind-by s at false e = rw (words-at s at (ltb-false _ _ e))

pub words-behind : (s : List ℕ) (at : ℕ) → words_behind (words_at s at) ≡ words_at s (next_word s at)
words-behind s at = behind-by s at (ltb (length s) at) refl

pub words-all : (s : List ℕ) → words_at s 0 ≡ words_of s
words-all s = rw (le-ltb (length s) 0 (omega arith))
