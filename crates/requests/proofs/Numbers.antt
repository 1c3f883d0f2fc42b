-- A loop over the letters of a call's numbers (`Numbered`).
use Prim.Native.Nat.{ℕ, suc, ◌+◌, ◌≤◌, ◌<◌}
use native.Mathlib.Numerals.{add-one}
use native.Mathlib.Omega.{arith}
use mathlib.Core.Path.{◌≡◌, refl, sym, ◌∙◌}
use mathlib.Core.List.{List, [], ◌∷◌, ◌++◌, append-nil, append_assoc}
use Rattle.std.specs.Prelude.{Option, Some, None}
use lib.ListN.{length, take, drop, set, get_or, length-set, drop_of_length-le}
use lib.Seq.{drop-cons, take-suc-set, take_all}
use Rattle.requests.specs.declared.commands.Letter.{Letter}
use Rattle.requests.specs.declared.commands.Letter.TheVariants as letter
use Rattle.requests.specs.Words.{words_at}
use Rattle.requests.specs.Requests.{Values, number_by, index_behind, words_left, one_more, letter_numbers}
use Rattle.requests.proofs.Words.{first-word, words-behind}

-- numbers in front of others
abbrev pub ahead : List ℕ → Option Values → Option Values
ahead l None = None
ahead l (Some v) = Some (record { values = l ++ v.values; left = v.left })

ahead-nil : (o : Option Values) → o ≡ ahead [] o
ahead-nil None = refl
ahead-nil (Some v) = refl

ahead_more : (l : List ℕ) (n : ℕ) (o : Option Values) → ahead l (one_more (Some n) o) ≡ ahead (l ++ (n ∷ [])) o
ahead_more l n None = refl
ahead_more l n (Some v) = rw (append_assoc l (n ∷ []) v.values)

words_left_lem : (letter : Letter) (line : List ℕ) (at : ℕ) → words_left letter (words_at line at) ≡ words_at line (index_behind letter line at)
words_left_lem letter.Place line at = words-behind line at
words_left_lem letter.Mask line at = words-behind line at
words_left_lem letter.Length line at = words-behind line at
words_left_lem letter.None line at = refl

-- the numbers of the first k letters are read, and `next` is the index of the word behind them
pub record Numbered (line : List ℕ) (letters : List Letter) (at : ℕ) (values : List ℕ) (next k : ℕ) : Type 0 where
  pub four : length letters ≡ 4
  pub room : length values ≡ 4
  pub few : k ≤ 4
  pub same : letter_numbers letters (words_at line at) ≡ ahead (take k values) (letter_numbers (drop k letters) (words_at line next))

pub numbered-none : (line : List ℕ) (letters : List Letter) (at : ℕ) (values : List ℕ) → length letters ≡ 4 → length values ≡ 4
    → Numbered line letters at values at 0
numbered-none line letters at values e f = record { four = e; room = f; few = omega arith; same = ahead-nil _ }

module _ {line : List ℕ} {letters : List Letter} {at : ℕ} {values : List ℕ} {next k : ℕ} (p : Numbered line letters at values next k) where
  pub numbered-end : 4 ≤ k → Some (record { values = values; left = words_at line next }) ≡ letter_numbers letters (words_at line at)
  unfolding letter_numbers
  numbered-end h =
      let d : drop k letters ≡ [] = drop_of_length-le letters {i = k} (omega (arith, p)) in
      let t : take k values ≡ values = take_all k values (omega (arith, p)) in
      sym (p.same ∙ rw (d, t, append-nil values))

  module _ (h : k < 4) where
    numbered_step : letter_numbers letters (words_at line at)
        ≡ ahead (take k values)
        (one_more (number_by (get_or letters k letter.Place) line next)
        (letter_numbers (drop (suc k) letters) (words_at line (index_behind (get_or letters k letter.Place) line next))))
    unfolding letter_numbers
    numbered_step =
        p.same ∙ rw (drop-cons letters k letter.Place (omega (arith, p)), first-word line next, words_left_lem (get_or letters k letter.Place) line next)

    pub numbered-other : number_by (get_or letters k letter.Place) line next ≡ None → None ≡ letter_numbers letters (words_at line at)
    numbered-other e = sym (numbered_step ∙ rw e)

    pub numbered_more : (n : ℕ) → number_by (get_or letters k letter.Place) line next ≡ Some n →
        Numbered line letters at (set values k n) (index_behind (get_or letters k letter.Place) line next) (k + 1)
    numbered_more n e =
        let l : k < length values = omega (arith, p) in
        record {
          four = p.four;
          room = simp length-set p.room;
          few = omega arith;
          same =
              numbered_step ∙ rw (e, add-one k, take-suc-set values k n l)
              (ahead_more (take k values) n (letter_numbers (drop (suc k) letters) (words_at line (index_behind (get_or letters k letter.Place) line next))));
        }
