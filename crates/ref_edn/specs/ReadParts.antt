-- What each part of the reader reads at the front of a text.
use Rattle.std.specs.Prelude.{◌-◌, ℕ, zero, suc, Bool, false, List, [], ◌∷◌, length, drop, Option, Some, None, Result, Ok, cond, ◌==◌, ◌||◌}
use Rattle.ref_edn.specs.declared.faults.Fault.{Fault}
use Rattle.ref_edn.specs.declared.faults.Flaw.TheVariants.{EndsEarly, BadByte, WrongClose, TooDeep, LeftOut}
use Rattle.ref_edn.specs.declared.faults.ReadError.{ReadError}
use Rattle.ref_edn.specs.declared.faults.ReadError.TheVariants as errors
use Rattle.ref_value.specs.Edn.{Edn}
use Rattle.ref_edn.specs.Bytes.{is_space, is_close}
use Rattle.ref_edn.specs.declared.faults.ReadFault.{ReadFault}
use Rattle.ref_edn.specs.declared.faults.ReadFault.TheVariants as faults
use Rattle.ref_edn.specs.Faults.{◌>>=◌, fault, public_fault}
use Rattle.ref_edn.specs.ReadTokens.{starts_token, token_at, string_at}
use Rattle.ref_edn.specs.Reading.{is_discard, opens_set, skip, read, items_with, set_with, map_with, value_step, vector_with, mapping_with, collection_with, first, last, all_with}
use Rattle.ref_value.specs.Limits.{most_nested}

-- what stands behind whitespace
abbrev pub after_spaces : List ℕ → List ℕ
after_spaces [] = []
after_spaces (b ∷ text) = cond (is_space b) (after_spaces text) (b ∷ text)

abbrev pub front_is_discard : List ℕ → Bool
front_is_discard [] = false
front_is_discard (b ∷ text) = is_discard b text

abbrev pub front_opens_set : List ℕ → Bool
front_opens_set [] = false
front_opens_set (b ∷ text) = opens_set b text

-- an element that is no collection
unfoldable pub single_at : List ℕ → Result (Edn × List ℕ) Fault
single_at [] = fault EndsEarly []
single_at (b ∷ text) =
    cond (b == 34) (string_at (b ∷ text)) (cond (starts_token b) (token_at (b ∷ text)) (cond (is_close b) (fault WrongClose (b ∷ text))
    (cond (b == 35 || b == 92) (fault LeftOut (b ∷ text)) (fault BadByte (b ∷ text)))))

-- a discard at the front, and the collections, each where this many more may be open
unfoldable pub discarded_at : ℕ → List ℕ → Result (List ℕ) Fault
discarded_at room text = cond (room == 0) (fault TooDeep text) (skip (room - 1) (drop 2 text) >>= λ start. read (room - 1) start >>= λ x. Ok x.1)

unfoldable pub vector_at : ℕ → ℕ → List ℕ → Result (Edn × List ℕ) Fault
vector_at room close text = cond (room == 0) (fault TooDeep text) (vector_with (skip (room - 1)) (read (room - 1)) close text)

unfoldable pub mapping_at : ℕ → List ℕ → Result (Edn × List ℕ) Fault
mapping_at room text = cond (room == 0) (fault TooDeep text) (mapping_with (skip (room - 1)) (read (room - 1)) text)

unfoldable pub collection_at : ℕ → List ℕ → Result (Edn × List ℕ) Fault
collection_at room text = cond (room == 0) (fault TooDeep text) (collection_with (skip (room - 1)) (read (room - 1)) text)

-- what stands inside a collection, up to what closes it
unfoldable pub items_at : ℕ → ℕ → List ℕ → Result (List Edn × List ℕ) Fault
items_at room close text = items_with (skip room) (read room) close (length text) text

unfoldable pub set_at : ℕ → List ℕ → Result (List Edn × List ℕ) Fault
set_at room text = set_with (skip room) (read room) (length text) [] text

unfoldable pub map_at : ℕ → List ℕ → Result (List (Edn × Edn) × List ℕ) Fault
map_at room text = map_with (skip room) (read room) (length text) [] text

-- where the next element or the closing bracket begins, the element, and what is behind
unfoldable pub next_step : ℕ → ℕ → List ℕ → Result (List ℕ × Option Edn × List ℕ) Fault
next_step room close [] = fault EndsEarly []
next_step room close (b ∷ text) = cond (b == close) (Ok (b ∷ text, None, text)) (read room (b ∷ text) >>= λ x. Ok (b ∷ text, Some x.0, x.1))

unfoldable pub next_at : ℕ → ℕ → List ℕ → Result (List ℕ × Option Edn × List ℕ) Fault
next_at room close text = skip room text >>= λ start. next_step room close start

-- the value of a key that has just been read
unfoldable pub value_at : ℕ → List ℕ → Result (Edn × List ℕ) Fault
value_at room text = skip room text >>= λ second. value_step (skip room) (read room) second

-- keys and values in turn, in the order of reading
unfoldable pub pairs_step : ℕ → (List ℕ → Result (List (Edn × Edn) × List ℕ) Fault) → Option Edn → List ℕ → Result (List (Edn × Edn) × List ℕ) Fault
pairs_step room more None text = Ok ([], text)
pairs_step room more (Some k) text = value_at room text >>= λ x. more x.1 >>= λ es. Ok ((k, x.0) ∷ es.0, es.1)

unfoldable pub pairs_with : ℕ → ℕ → List ℕ → Result (List (Edn × Edn) × List ℕ) Fault
pairs_with room zero text = next_at room 125 text >>= λ k. pairs_step room (λ at. fault EndsEarly []) k.1 k.2
pairs_with room (suc turns) text = next_at room 125 text >>= λ k. pairs_step room (pairs_with room turns) k.1 k.2

-- the one element of a text, and all of them, where the text is known to be UTF-8
unfoldable pub whole_at : List ℕ → Result Edn Fault
whole_at text = skip most_nested text >>= λ start. first start >>= λ x. skip most_nested x.1 >>= λ rest. last x.0 rest

unfoldable pub series_at : List ℕ → Result (List Edn) Fault
series_at text = all_with (length text) text

-- the public fault of an error
abbrev pub public_error : List ℕ → ReadError → ReadFault
public_error text errors.Memory = faults.Memory
public_error text (errors.Fault f) = public_fault text f
