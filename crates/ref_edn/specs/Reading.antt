-- Elements and what stands between them, read from left to right, with the first fault that is met.
use Rattle.std.specs.Prelude.{ℕ, zero, suc, Bool, false, List, [], ◌∷◌, length, drop, Result, Ok, cond, ◌==◌, ◌&&◌, ◌||◌}
use Rattle.std.specs.List.{list_any}
use Rattle.std.specs.Ordering.{is_eq}
use Rattle.std.specs.BTreeMap.{insert_entry}
use Rattle.std.specs.BTreeSet.{insert_key}
use Rattle.std.specs.Str.{is_utf8}
use Rattle.std.specs.Str.Lossy.{utf8_valid_len}
use Rattle.ref_edn.specs.declared.faults.Fault.{Fault}
use Rattle.ref_edn.specs.declared.faults.Flaw.TheVariants.{Nothing, EndsEarly, BadByte, WrongClose, Duplicate, OddMap, TooDeep, LeftOut, NotUtf8, Trailing}
use Rattle.ref_value.specs.Edn.{Edn, vector, map, set, items_of, entries_of}
use Rattle.ref_value.specs.Order.{edn_cmp}
use Rattle.ref_edn.specs.Bytes.{is_space, is_close}
use Rattle.ref_edn.specs.Grammar.{from_newline}
use Rattle.ref_edn.specs.Faults.{◌>>=◌, fault}
use Rattle.ref_edn.specs.ReadTokens.{starts_token, token_at, string_at}
use Rattle.ref_value.specs.Limits.{most_nested}

abbrev pub is_discard : ℕ → List ℕ → Bool
is_discard b [] = false
is_discard b (c ∷ text) = b == 35 && c == 95

abbrev pub opens_set : ℕ → List ℕ → Bool
opens_set b [] = false
opens_set b (c ∷ text) = b == 35 && c == 123

-- What stands behind blanks, where `discard` reads a discard. The number bounds the turns, and the length is always enough.
unfoldable pub skip_with : (List ℕ → Result (List ℕ) Fault) → ℕ → List ℕ → Result (List ℕ) Fault
skip_with discard zero text = Ok text
skip_with discard (suc turns) [] = Ok []
skip_with discard (suc turns) (b ∷ text) =
    cond (is_space b) (skip_with discard turns text) (cond (b == 59) (skip_with discard turns (from_newline text))
    (cond (is_discard b text) (discard (b ∷ text) >>= λ rest. skip_with discard turns rest) (Ok (b ∷ text))))

module _ (skip : List ℕ → Result (List ℕ) Fault) (read : List ℕ → Result (Edn × List ℕ) Fault) where
  -- the elements up to what closes them
  unfoldable pub items_step : (List ℕ → Result (List Edn × List ℕ) Fault) → ℕ → List ℕ → Result (List Edn × List ℕ) Fault
  items_step more close [] = fault EndsEarly []
  items_step more close (b ∷ text) = cond (b == close) (Ok ([], text)) (read (b ∷ text) >>= λ x. more x.1 >>= λ xs. Ok (x.0 ∷ xs.0, xs.1))

  unfoldable pub items_with : ℕ → ℕ → List ℕ → Result (List Edn × List ℕ) Fault
  items_with close zero text = skip text >>= λ start. items_step (λ at. fault EndsEarly []) close start
  items_with close (suc turns) text = skip text >>= λ start. items_step (items_with close turns) close start

  -- whether an element is among these
  abbrev pub has : Edn → List Edn → Bool
  has x seen = list_any (λ y. is_eq (edn_cmp x y)) seen

  -- the elements of a set up to what closes it, in value order; those so far are `seen`
  unfoldable pub set_step : (List Edn → List ℕ → Result (List Edn × List ℕ) Fault) → List Edn → List ℕ → Result (List Edn × List ℕ) Fault
  set_step more seen [] = fault EndsEarly []
  set_step more seen (b ∷ text) = cond (b == 125) (Ok (seen, text)) (read (b ∷ text) >>= λ x. cond (has x.0 seen) (fault Duplicate (b ∷ text)) (more (insert_key edn_cmp seen x.0) x.1))

  unfoldable pub set_with : ℕ → List Edn → List ℕ → Result (List Edn × List ℕ) Fault
  set_with zero seen text = skip text >>= λ start. set_step (λ s at. fault EndsEarly []) seen start
  set_with (suc turns) seen text = skip text >>= λ start. set_step (set_with turns) seen start

  abbrev pub has_key : Edn → List (Edn × Edn) → Bool
  has_key k seen = list_any (λ e. is_eq (edn_cmp k e.0)) seen

  -- the value of a key
  unfoldable pub value_step : List ℕ → Result (Edn × List ℕ) Fault
  value_step [] = fault EndsEarly []
  value_step (b ∷ text) = cond (b == 125) (fault OddMap (b ∷ text)) (read (b ∷ text))

  -- the entries of a map up to what closes it, in value order; those so far are `seen`
  unfoldable pub map_step : (List (Edn × Edn) → List ℕ → Result (List (Edn × Edn) × List ℕ) Fault) → List (Edn × Edn) → List ℕ → Result (List (Edn × Edn) × List ℕ) Fault
  map_step more seen [] = fault EndsEarly []
  map_step more seen (b ∷ text) =
      cond (b == 125) (Ok (seen, text)) (read (b ∷ text) >>= λ k. cond (has_key k.0 seen) (fault Duplicate (b ∷ text))
      (skip k.1 >>= λ second. value_step second >>= λ x. more (insert_entry edn_cmp seen k.0 x.0) x.1))

  unfoldable pub map_with : ℕ → List (Edn × Edn) → List ℕ → Result (List (Edn × Edn) × List ℕ) Fault
  map_with zero seen text = skip text >>= λ start. map_step (λ s at. fault EndsEarly []) seen start
  map_with (suc turns) seen text = skip text >>= λ start. map_step (map_with turns) seen start

  -- a collection at the front, of which the opening takes one byte, or two for a set
  unfoldable pub vector_with : ℕ → List ℕ → Result (Edn × List ℕ) Fault
  vector_with close text = items_with close (length (drop 1 text)) (drop 1 text) >>= λ xs. Ok (vector (items_of xs.0), xs.1)

  unfoldable pub mapping_with : List ℕ → Result (Edn × List ℕ) Fault
  mapping_with text = map_with (length (drop 1 text)) [] (drop 1 text) >>= λ es. Ok (map (entries_of es.0), es.1)

  unfoldable pub collection_with : List ℕ → Result (Edn × List ℕ) Fault
  collection_with text = set_with (length (drop 2 text)) [] (drop 2 text) >>= λ xs. Ok (set (items_of xs.0), xs.1)

-- the element at the front, where the three read a collection
unfoldable pub read_with : (ℕ → List ℕ → Result (Edn × List ℕ) Fault) → (List ℕ → Result (Edn × List ℕ) Fault) → (List ℕ → Result (Edn × List ℕ) Fault) → List ℕ → Result (Edn × List ℕ) Fault
read_with vector_at mapping_at collection_at [] = fault EndsEarly []
read_with vector_at mapping_at collection_at (b ∷ text) =
    cond (b == 91) (vector_at 93 (b ∷ text)) (cond (b == 40) (vector_at 41 (b ∷ text)) (cond (b == 123) (mapping_at (b ∷ text)) (cond (opens_set b text) (collection_at (b ∷ text))
    (cond (b == 34) (string_at (b ∷ text)) (cond (starts_token b) (token_at (b ∷ text)) (cond (is_close b) (fault WrongClose (b ∷ text))
    (cond (b == 35 || b == 92) (fault LeftOut (b ∷ text)) (fault BadByte (b ∷ text)))))))))

-- The number is how many more collections and discards may be open.
unfoldable mutual
  pub skip : ℕ → List ℕ → Result (List ℕ) Fault
  skip zero text = skip_with (λ at. fault TooDeep at) (length text) text
  skip (suc room) text = skip_with (λ at. skip room (drop 2 at) >>= λ start. read room start >>= λ x. Ok x.1) (length text) text

  pub read : ℕ → List ℕ → Result (Edn × List ℕ) Fault
  read zero text = read_with (λ close at. fault TooDeep at) (λ at. fault TooDeep at) (λ at. fault TooDeep at) text
  read (suc room) text = read_with (vector_with (skip room) (read room)) (mapping_with (skip room) (read room)) (collection_with (skip room) (read room)) text

abbrev pub first : List ℕ → Result (Edn × List ℕ) Fault
first [] = fault Nothing []
first (b ∷ rest) = read most_nested (b ∷ rest)

abbrev pub last : Edn → List ℕ → Result Edn Fault
last x [] = Ok x
last x (b ∷ rest) = fault Trailing (b ∷ rest)

-- UTF-8 is asked first.
unfoldable pub checked : {A : Type 0} → List ℕ → Result A Fault → Result A Fault
checked text read = cond (is_utf8 text) read (fault NotUtf8 (drop (utf8_valid_len text) text))

-- one element, with blanks round it
unfoldable pub one : List ℕ → Result Edn Fault
one text = checked text (skip most_nested text >>= λ start. first start >>= λ x. skip most_nested x.1 >>= λ rest. last x.0 rest)

-- elements, with blanks round them
abbrev pub all_step : (List ℕ → Result (List Edn) Fault) → List ℕ → Result (List Edn) Fault
all_step more [] = Ok []
all_step more (b ∷ text) = read most_nested (b ∷ text) >>= λ x. more x.1 >>= λ xs. Ok (x.0 ∷ xs)

unfoldable pub all_with : ℕ → List ℕ → Result (List Edn) Fault
all_with zero text = skip most_nested text >>= λ start. all_step (λ at. Ok []) start
all_with (suc turns) text = skip most_nested text >>= λ start. all_step (all_with turns) start

unfoldable pub all : List ℕ → Result (List Edn) Fault
all text = checked text (all_with (length text) text)
