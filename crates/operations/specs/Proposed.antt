-- The code's own steps: a joined word made for the rule (`Made`), and, between working a result and keeping it, the result or why there is none (`Proposal`).
-- Nothing that a caller sees.
use Rattle.std.specs.Prelude.{ℕ, ◌<◌, ◌≡◌, List, length, Result, Ok, Err}
use Rattle.number.specs.declared.Number.{Number}
use Rattle.number.specs.Number.{rounded}
use Rattle.words.specs.Word.{Factors, exchanged}
use Rattle.words.specs.Operation.{Step, Operation, size, bound, result}
use Rattle.words.specs.Effort.{steps_made}
use Rattle.walk.specs.declared.Joined.{Joined}
use Rattle.walk.specs.Lent.{steps_of, Prepared}
use Rattle.rule.specs.declared.Refactored.{Refactored}
use Rattle.table.specs.Table.{table_of}
use Rattle.verdict.specs.declared.Refusal.{Refusal}
use Rattle.verdict.specs.declared.Reason.TheVariants.{ExponentOutOfRange}
use Rattle.verdict.specs.Verdict.{Verdict, first_of, when}
use Rattle.places.specs.declared.Shelf.{Shelf}
use Rattle.table.specs.Table.{outside}
use Rattle.places.specs.Shelf.{rows_at, factors_at, with_table, Fits}
use Rattle.places.specs.Tests.{one_source}
use Rattle.stamps.specs.Stamps.{built_factors, stamp_bound}
use Rattle.operations.specs.Operations.{build_tests, operation_verdict}
use Rattle.operations.specs.declared.Performed.{Performed}
use Rattle.operations.specs.declared.Filled.{Filled}
use Rattle.operations.specs.declared.Operated.{Operated}

abbrev pub Proposal : Type 0
Proposal = Result Refactored Refusal

-- a result behind a verdict
abbrev pub behind : Verdict → Refactored → Proposal
behind (Ok u) x = Ok x
behind (Err w) x = Err w

-- k rows with factors b, the bound e and x steps
abbrev pub proposal : Verdict → ℕ → ℕ → ℕ → Factors Number → Proposal
proposal v k e x b = behind v (record { factors = table_of k b; rows = k; bound = e; steps = x })

-- the transpose of place p, and the matrix of powers of time stamps, to place t
abbrev pub transpose_proposal : Shelf → ℕ → ℕ → Proposal
transpose_proposal s p t = proposal (first_of (one_source s p t)) (rows_at s p) 0 0 (exchanged (factors_at s p))

abbrev pub build_proposal : Shelf → ℕ → List ℕ → Proposal
build_proposal s t stamps = proposal (first_of (build_tests s t stamps)) (length stamps) stamp_bound 0 (built_factors stamps)

-- a result of the rule
unfoldable pub proposed : List Verdict → ℕ → Operation Number → Proposal
proposed L n o = proposal (operation_verdict L n o) (size n o) (bound n o) (steps_made rounded n o) (result rounded n o)

-- what the rule's code handed back, put to the test of its exponents
abbrev pub ranged_of : Refactored → Proposal
ranged_of x = behind (when (outside x.factors) ExponentOutOfRange) x

-- a result kept at place t
abbrev pub kept : Shelf → ℕ → Proposal → Operated
kept s t (Ok x) = record { shelf = with_table s t x.rows x.factors; answer = Ok (record { bound = x.bound; steps = x.steps }) }
kept s t (Err w) = record { shelf = s; answer = Err w }

-- a build's answer, which has no steps
abbrev pub built_answer : Result Performed Refusal → Result ℕ Refusal
built_answer (Ok p) = Ok p.bound
built_answer (Err w) = Err w

abbrev pub filled_by : Operated → Filled
filled_by x = record { shelf = x.shelf; answer = built_answer x.answer }

-- what can be kept: a result fits a place of the shelf
abbrev pub Keepable : ℕ → Proposal → Type 0
Keepable t (Ok x) = (t < 8) × Fits x.rows x.factors
Keepable t (Err w) = Unit {0}

-- the word w, with the letters l and the factors b, has the steps L of n rows
pub record Made (n : ℕ) (L : List (Step Number)) (w : Joined) (l b : List ℕ) : Type 0 where
  pub prepared : Prepared w l b
  pub rows_are : w.n ≡ n
  pub many : w.count ≡ length L
  pub steps-are : steps_of w b ≡ L
