-- What a look at the front of a text shows, without reading more of it.
use Rattle.std.specs.Prelude.{◌≡◌, ℕ, ◌+◌, ◌-◌, ◌*◌, Bool, false, ◌||◌, ◌==◌, List, [], ◌∷◌, ◌++◌, cond, IsTrue}
use Rattle.ref_edn.specs.Bytes.{is_space, is_digit, is_numeral, digits_value}
use Rattle.ref_edn.specs.Grammar.{Ends}

-- whether whitespace, a comment or a discard may begin here
abbrev pub may_be_blank : List ℕ → Bool
may_be_blank [] = false
may_be_blank (b ∷ text) = is_space b || b == 59 || b == 35

-- the number that the digits at the front write when they follow those of n
abbrev pub front_value : ℕ → List ℕ → ℕ
front_value n [] = n
front_value n (b ∷ bs) = cond (is_digit b) (front_value (n * 10 + (b - 48)) bs) n

-- A numeral that writes this number stands at the front, up to where a token ends, and this follows it.
pub record StandsFirst (n : ℕ) (text rest : List ℕ) : Type 0 where
  pub word : List ℕ
  pub numeral : IsTrue (is_numeral word)
  pub number : digits_value word ≡ n
  pub ends : Ends rest
  pub split : text ≡ word ++ rest
