-- EDN data: what a value is, without where it lies in memory.
use Rattle.std.specs.Prelude.{ℕ, ℤ, Bool, List, [], ◌∷◌, Option, None, Some, suc, max, ◌≡◌, refl}
use Rattle.std.proofs.Common.{ap}

-- Texts are their UTF-8 bytes; a keyword's is its name without the colon. A map's entries and a set's elements stand
-- in the order in which they are stored, which in a lawful value is the value order.
mutual
  pub data Edn : Type 0 where
    nil : Edn
    boolean : Bool → Edn
    int : ℤ → Edn
    string : List ℕ → Edn
    keyword : List ℕ → Edn
    symbol : List ℕ → Edn
    vector : Items → Edn
    map : Entries → Edn
    set : Items → Edn

  pub data Items : Type 0 where
    no_items : Items
    item : Edn → Items → Items

  -- a key, its value, and the entries after them
  pub data Entries : Type 0 where
    no_entries : Entries
    entry : Edn → Edn → Entries → Entries

-- a list as the elements of a collection, and back
abbrev pub items_of : List Edn → Items
items_of [] = no_items
items_of (x ∷ xs) = item x (items_of xs)

abbrev pub list_of : Items → List Edn
list_of no_items = []
list_of (item x xs) = x ∷ list_of xs

abbrev pub entries_of : List (Edn × Edn) → Entries
entries_of [] = no_entries
entries_of (e ∷ es) = entry e.0 e.1 (entries_of es)

abbrev pub pairs_of : Entries → List (Edn × Edn)
pairs_of no_entries = []
pairs_of (entry k x es) = (k, x) ∷ pairs_of es

pub list_of-items_of : (xs : List Edn) → list_of (items_of xs) ≡ xs
list_of-items_of [] = refl
list_of-items_of (x ∷ xs) = ap (λ ys. x ∷ ys) (list_of-items_of xs)

pub pairs_of-entries_of : (es : List (Edn × Edn)) → pairs_of (entries_of es) ≡ es
pairs_of-entries_of [] = refl
pairs_of-entries_of (e ∷ es) = ap (λ fs. e ∷ fs) (pairs_of-entries_of es)

-- how many collections are open at the deepest place of a value
abbrev mutual
  pub nesting : Edn → ℕ
  nesting nil = 0
  nesting (boolean b) = 0
  nesting (int n) = 0
  nesting (string s) = 0
  nesting (keyword s) = 0
  nesting (symbol s) = 0
  nesting (vector xs) = suc (items_depth xs)
  nesting (map es) = suc (entries_depth es)
  nesting (set xs) = suc (items_depth xs)

  pub items_depth : Items → ℕ
  items_depth no_items = 0
  items_depth (item x xs) = max (nesting x) (items_depth xs)

  pub entries_depth : Entries → ℕ
  entries_depth no_entries = 0
  entries_depth (entry k x es) = max (max (nesting k) (nesting x)) (entries_depth es)

-- ---- texts

-- the text of a string, and the names of a keyword and of a symbol
abbrev pub string_of : Edn → Option (List ℕ)
string_of (string s) = Some s
string_of x = None

abbrev pub keyword_of : Edn → Option (List ℕ)
keyword_of (keyword s) = Some s
keyword_of x = None

abbrev pub symbol_of : Edn → Option (List ℕ)
symbol_of (symbol s) = Some s
symbol_of x = None

-- that of any of the three
abbrev pub text_of : Edn → List ℕ
text_of (string s) = s
text_of (keyword s) = s
text_of (symbol s) = s
text_of x = []
