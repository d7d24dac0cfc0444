-- Numbered questions, put in their order, and the result.
use Rattle.std.specs.Prelude.{Bool, cond, List, [], ◌∷◌, ℕ, ◌+◌, ◌*◌, ◌^◌, eqb}

-- a question's number, and its answer
pub record Question : Type 0 where
  pub ask : ℕ
  pub yes : Bool

-- "the first no is the refusal"; 0 where every answer is yes
unfoldable pub first_no : List Question → ℕ
first_no [] = 0
first_no (q ∷ qs) = cond q.yes (first_no qs) q.ask

-- the questions asked before number n
unfoldable pub before : ℕ → List Question → List Question
before n [] = []
before n (q ∷ qs) = cond (eqb q.ask n) [] (q ∷ before n qs)

-- "A result is one 64-bit number: refusal number times 2^32, plus value."
abbrev pub result_number : ℕ → ℕ → ℕ
result_number refusal value = refusal * 2 ^ 32 + value
