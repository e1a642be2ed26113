-- Entries that are read one after another: what a loop has read, and what is left.
use Rattle.std.proofs.Common.{◌≡◌, ℕ, ◌+◌, ◌<◌, List, [], ◌∷◌, ◌++◌, drop, length, get_or, refl, sym, ◌∙◌, ap, suc, add-one, append_assoc, drop-cons, Some, Result, Ok, Err}
use Rattle.ref_value.specs.Edn.{Edn}
use Rattle.ref_log.specs.declared.entries.Entry.{Entry}
use Rattle.ref_verdict.specs.DumpForm.{and_entry, entries_from, entry_of}
use Rattle.ref_verdict.specs.declared.reading.dumps.Version.{Version}
use Rattle.ref_verdict.specs.declared.reading.faults.DumpFault.{DumpFault}

-- ---- entries

-- these entries, and behind them those that are left, or the fault there
abbrev pub entries_in_front : List Entry → Result (List Entry) DumpFault → Result (List Entry) DumpFault
entries_in_front es (Ok more) = Ok (es ++ more)
entries_in_front es (Err fault) = Err fault

pub entries_in_front_and_entry : (es : List Entry) (n : ℕ) (e : Entry) (rest : Result (List Entry) DumpFault) → entries_in_front es (and_entry n (Some e) rest) ≡ entries_in_front (es ++ e ∷ []) rest
entries_in_front_and_entry es n e (Ok more) = ap Ok (sym (append_assoc es (e ∷ []) more))
entries_in_front_and_entry es n e (Err fault) = refl

-- what there is at a place, and behind it
pub next_form : (xs : List Edn) (i : ℕ) (x : Edn) → i < length xs → x ≡ get_or xs i x → drop i xs ≡ x ∷ drop (i + 1) xs
next_form xs i x h is = rw (add-one) (drop-cons xs i x h ∙ ap (λ y. y ∷ drop (suc i) xs) (sym is))

-- one more entry is read
pub entries_more : (version : Version) (forms : List Edn) (i : ℕ) (x : Edn) (e : Entry) (before : List Entry) → i < length forms → x ≡ get_or forms i x → entry_of version x ≡ Some e → entries_in_front before (entries_from version (i + 1) (drop i forms)) ≡ entries_in_front (before ++ e ∷ []) (entries_from version (i + 1 + 1) (drop (i + 1) forms))
entries_more version forms i x e before h is says =
    let rest = entries_from version (i + 1 + 1) (drop (i + 1) forms) in
    let here : entries_from version (i + 1) (drop i forms) ≡ and_entry (i + 1) (Some e) rest = ap (entries_from version (i + 1)) (next_form forms i x h is) ∙ ap (λ o. and_entry (i + 1) o rest) says in
    ap (entries_in_front before) here ∙ entries_in_front_and_entry before (i + 1) e rest
