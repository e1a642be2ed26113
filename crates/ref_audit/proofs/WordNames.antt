-- The words of dumps and the names of Core's functions are names of EDN.
use Rattle.std.proofs.Common.{◌≡◌, ℕ, Bool, true, false, List, [], ◌∷◌, ◌==◌, Option, Some, refl, sym, if◌then◌else◌}
use Rattle.std.specs.List.{list_all}
use Rattle.std.proofs.lemmas.Bool.{and_parts}
use Rattle.ref_value.specs.Names.{is_keyword, is_symbol, is_name, is_name_byte}
use Rattle.ref_fun.specs.Names.{core_names, name_in}
use Rattle.ref_audit.specs.Made.{word_text}
use Rattle.ref_audit.specs.declared.words.Word.{Word}
use Rattle.ref_audit.specs.declared.words.Word.TheVariants as words

pub is_keyword_word : (w : Word) → is_keyword (word_text w) ≡ true
unfolding is_name is_name_byte
is_keyword_word words.Added = refl
is_keyword_word words.Agents = refl
is_keyword_word words.Alter = refl
is_keyword_word words.Atoms = refl
is_keyword_word words.BaseAtoms = refl
is_keyword_word words.BaseRefs = refl
is_keyword_word words.Commits = refl
is_keyword_word words.Commute = refl
is_keyword_word words.Done = refl
is_keyword_word words.Dump = refl
is_keyword_word words.Ensure = refl
is_keyword_word words.Entries = refl
is_keyword_word words.Failed = refl
is_keyword_word words.Folded = refl
is_keyword_word words.MadeAtom = refl
is_keyword_word words.MadeRef = refl
is_keyword_word words.Passed = refl
is_keyword_word words.Point = refl
is_keyword_word words.Ready = refl
is_keyword_word words.Refs = refl
is_keyword_word words.Reset = refl
is_keyword_word words.Set = refl
is_keyword_word words.Swap = refl
is_keyword_word words.Taken = refl
is_keyword_word words.Tally = refl
is_keyword_word words.Tx = refl

symbol_here : (e : ℕ × List ℕ) (rest : Option (List ℕ)) (name : List ℕ) (here : Bool) → is_symbol e.1 ≡ true → (rest ≡ Some name → is_symbol name ≡ true) → (if here then Some e.1 else rest) ≡ Some name → is_symbol name ≡ true
symbol_here e rest name true first later found =
    let same : e.1 ≡ name = cc in
    rw same at first
symbol_here e rest name false first later found = later found

symbols_found : (es : List (ℕ × List ℕ)) (code : ℕ) (name : List ℕ) → list_all (λ e. is_symbol e.1) es ≡ true → name_in es code ≡ Some name → is_symbol name ≡ true
symbols_found [] code name all found = absurd cc
symbols_found (e ∷ es) code name all found =
    let parts = and_parts (is_symbol e.1) (list_all (λ x. is_symbol x.1) es) all in
    symbol_here e (name_in es code) name (e.0 == code) parts.0 (symbols_found es code name parts.1) found

core_symbols : list_all (λ e. is_symbol e.1) core_names ≡ true
unfolding core_names is_name is_name_byte
core_symbols = refl

pub is_symbol_name : (code : ℕ) (name : List ℕ) → Some name ≡ name_in core_names code → is_symbol name ≡ true
is_symbol_name code name found = symbols_found core_names code name core_symbols (sym found)
