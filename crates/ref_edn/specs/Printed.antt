-- The one text that is printed of a value.
use Rattle.std.specs.Prelude.{ℕ, ◌==◌, true, false, cond, List, [], ◌∷◌, ◌++◌}
use Rattle.std.specs.Fmt.{signed_decimal}
use Rattle.ref_value.specs.Edn.{Edn, nil, boolean, int, string, keyword, symbol, vector, map, set, Items, no_items, item, Entries, no_entries, entry}
use Rattle.ref_value.specs.Names.{nil_text, true_text, false_text}

-- A byte of a string: a quote, a backslash, and what moves the cursor are escaped, each other byte stands as it is.
abbrev pub escaped_byte : ℕ → List ℕ
escaped_byte b =
    cond (b == 34) (92 ∷ 34 ∷ []) (cond (b == 92) (92 ∷ 92 ∷ []) (cond (b == 10) (92 ∷ 110 ∷ []) (cond (b == 13) (92 ∷ 114 ∷ [])
    (cond (b == 9) (92 ∷ 116 ∷ []) (cond (b == 8) (92 ∷ 98 ∷ []) (cond (b == 12) (92 ∷ 102 ∷ []) (b ∷ [])))))))

abbrev pub escaped : List ℕ → List ℕ
escaped [] = []
escaped (b ∷ s) = escaped_byte b ++ escaped s

-- the text of a value, and then the rest
abbrev mutual
  pub text : Edn → List ℕ → List ℕ
  text nil rest = nil_text ++ rest
  text (boolean true) rest = true_text ++ rest
  text (boolean false) rest = false_text ++ rest
  text (int n) rest = signed_decimal n ++ rest
  text (string s) rest = 34 ∷ (escaped s ++ 34 ∷ rest)
  text (keyword s) rest = 58 ∷ (s ++ rest)
  text (symbol s) rest = s ++ rest
  text (vector xs) rest = 91 ∷ items_text 93 xs rest
  text (map es) rest = 123 ∷ entries_text es rest
  text (set xs) rest = 35 ∷ 123 ∷ items_text 125 xs rest

  -- elements with one space between, and what closes them
  pub items_text : ℕ → Items → List ℕ → List ℕ
  items_text close no_items rest = close ∷ rest
  items_text close (item x xs) rest = text x (more_items close xs rest)

  pub more_items : ℕ → Items → List ℕ → List ℕ
  more_items close no_items rest = close ∷ rest
  more_items close (item x xs) rest = 32 ∷ text x (more_items close xs rest)

  -- entries with a comma and a space between, a key and its value with a space between
  pub entries_text : Entries → List ℕ → List ℕ
  entries_text no_entries rest = 125 ∷ rest
  entries_text (entry k x es) rest = text k (32 ∷ text x (more_entries es rest))

  pub more_entries : Entries → List ℕ → List ℕ
  more_entries no_entries rest = 125 ∷ rest
  more_entries (entry k x es) rest = 44 ∷ 32 ∷ text k (32 ∷ text x (more_entries es rest))

abbrev pub printed : Edn → List ℕ
printed x = text x []
