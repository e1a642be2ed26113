-- How much of a text an element takes, and how deep its value is at most.
use Rattle.std.proofs.Common.{◌≡◌, ℕ, ◌<◌, ◌≤◌, List, [], ◌∷◌, ◌++◌, length, refl, arith, length-append}
use Rattle.std.specs.Prelude.{max}
use Rattle.std.specs.List.{All}
use Rattle.std.proofs.lemmas.List.Elements.{All-nil, All-cons, All-head, All-tail}
use Rattle.std.proofs.lemmas.List.Sorted.{All-permutation}
use Rattle.ref_value.specs.Edn.{Edn, Items, no_items, item, Entries, no_entries, entry, list_of, pairs_of, nesting, items_depth, entries_depth}
use Rattle.ref_edn.specs.Grammar.{Token, nil_token, true_token, false_token, integer_token, keyword_token, symbol_token, SortsElements, SortsEntries, Blank, nothing, space, comment, discard, Element, token, quoted, sequence, mapping, collection, Elements, closed, more, Pairs, no_more, pair}
use Rattle.ref_edn.proofs.Tokens.{StartsToken, token_starts}
use Rattle.ref_edn.proofs.Strings.{body_shorter}
use Rattle.ref_edn.proofs.Turns.{from_newline_shorter}

-- ---- bytes

word_shorter : (text word rest : List ℕ) → StartsToken word → text ≡ word ++ rest → length rest < length text
word_shorter text [] rest h e = absurd h
word_shorter text (b ∷ word) rest h e = rw e (omega (arith, length-append word rest))

mutual
  pub blank_shorter : {n : ℕ} {text rest : List ℕ} → Blank n text rest → length rest ≤ length text
  blank_shorter nothing = omega arith
  blank_shorter (space is d) = let h = blank_shorter d in omega arith
  blank_shorter (comment {n} {text} {after} {rest} is d) = let h = blank_shorter d in let g : length after ≤ length text = rw (← is) (from_newline_shorter text) in omega arith
  blank_shorter (discard d e ds) = let h = blank_shorter d in let g = element_shorter e in let i = blank_shorter ds in omega arith

  pub element_shorter : {n : ℕ} {text rest : List ℕ} {x : Edn} → Element n text x rest → length rest < length text
  element_shorter (token {n} {text} {word} {rest} t inside ends e) = word_shorter text word rest (token_starts t) e
  element_shorter (quoted d) = let h = body_shorter d in omega arith
  element_shorter (sequence b d) = let h = elements_shorter d in omega arith
  element_shorter (mapping d s) = let h = pairs_shorter d in omega arith
  element_shorter (collection d s) = let h = elements_shorter d in omega arith

  pub elements_shorter : {n close : ℕ} {text rest : List ℕ} {xs : Items} → Elements n close text xs rest → length rest < length text
  elements_shorter (closed d) = let h = blank_shorter d in omega arith
  elements_shorter (more d e ds) = let h = blank_shorter d in let g = element_shorter e in let i = elements_shorter ds in omega arith

  pub pairs_shorter : {n : ℕ} {text rest : List ℕ} {es : Entries} → Pairs n text es rest → length rest < length text
  pairs_shorter (no_more d) = let h = blank_shorter d in omega arith
  pairs_shorter (pair d k e x ds) = let h = blank_shorter d in let g = element_shorter k in let i = blank_shorter e in let j = element_shorter x in let l = pairs_shorter ds in omega arith

-- ---- depth

token_flat : {word : List ℕ} {x : Edn} → Token word x → nesting x ≡ 0
token_flat nil_token = refl
token_flat true_token = refl
token_flat false_token = refl
token_flat (integer_token is fits) = refl
token_flat (keyword_token is) = refl
token_flat (symbol_token is) = refl

flatter_items : (n : ℕ) (xs : Items) → items_depth xs ≤ n → All (λ x. nesting x ≤ n) (list_of xs)
flatter_items n no_items h = All-nil (λ x. nesting x ≤ n)
flatter_items n (item x xs) h = All-cons (λ x. nesting x ≤ n) x (list_of xs) (omega arith) (flatter_items n xs (omega arith))

items_flatter : (n : ℕ) (xs : Items) → All (λ x. nesting x ≤ n) (list_of xs) → items_depth xs ≤ n
items_flatter n no_items h = omega arith
items_flatter n (item x xs) h =
    let first : nesting x ≤ n = All-head (λ x. nesting x ≤ n) x (list_of xs) h in
    let rest : items_depth xs ≤ n = items_flatter n xs (All-tail (λ x. nesting x ≤ n) x (list_of xs) h) in
    omega arith

pub sorted_flatter : (n : ℕ) (xs ys : Items) → SortsElements xs ys → items_depth xs ≤ n → items_depth ys ≤ n
sorted_flatter n xs ys s h = items_flatter n ys (All-permutation (λ x. nesting x ≤ n) (list_of xs) (list_of ys) s.same (flatter_items n xs h))

flatter_entries : (n : ℕ) (es : Entries) → entries_depth es ≤ n → All (λ (e : Edn × Edn). max (nesting e.0) (nesting e.1) ≤ n) (pairs_of es)
flatter_entries n no_entries h = All-nil (λ (e : Edn × Edn). max (nesting e.0) (nesting e.1) ≤ n)
flatter_entries n (entry k x es) h = All-cons (λ (e : Edn × Edn). max (nesting e.0) (nesting e.1) ≤ n) (k, x) (pairs_of es) (omega arith) (flatter_entries n es (omega arith))

entries_flatter : (n : ℕ) (es : Entries) → All (λ (e : Edn × Edn). max (nesting e.0) (nesting e.1) ≤ n) (pairs_of es) → entries_depth es ≤ n
entries_flatter n no_entries h = omega arith
entries_flatter n (entry k x es) h =
    let first : max (nesting k) (nesting x) ≤ n = All-head (λ (e : Edn × Edn). max (nesting e.0) (nesting e.1) ≤ n) (k, x) (pairs_of es) h in
    let rest : entries_depth es ≤ n = entries_flatter n es (All-tail (λ (e : Edn × Edn). max (nesting e.0) (nesting e.1) ≤ n) (k, x) (pairs_of es) h) in
    omega arith

pub sorted_entries_flatter : (n : ℕ) (es fs : Entries) → SortsEntries es fs → entries_depth es ≤ n → entries_depth fs ≤ n
sorted_entries_flatter n es fs s h = entries_flatter n fs (All-permutation (λ (e : Edn × Edn). max (nesting e.0) (nesting e.1) ≤ n) (pairs_of es) (pairs_of fs) s.same (flatter_entries n es h))

mutual
  pub element_fits : {n : ℕ} {text rest : List ℕ} {x : Edn} → Element n text x rest → nesting x ≤ n
  element_fits (token t inside ends e) = let h = token_flat t in omega arith
  element_fits (quoted d) = omega arith
  element_fits (sequence b d) = let h = elements_fit d in omega arith
  element_fits (mapping {n} {text} {rest} {es} {fs} d s) = let h = sorted_entries_flatter n es fs s (pairs_fit d) in omega arith
  element_fits (collection {n} {text} {rest} {xs} {ys} d s) = let h = sorted_flatter n xs ys s (elements_fit d) in omega arith

  pub elements_fit : {n close : ℕ} {text rest : List ℕ} {xs : Items} → Elements n close text xs rest → items_depth xs ≤ n
  elements_fit (closed d) = omega arith
  elements_fit (more d e ds) = let h = element_fits e in let i = elements_fit ds in omega arith

  pub pairs_fit : {n : ℕ} {text rest : List ℕ} {es : Entries} → Pairs n text es rest → entries_depth es ≤ n
  pairs_fit (no_more d) = omega arith
  pairs_fit (pair d k e x ds) = let h = element_fits k in let i = element_fits x in let j = pairs_fit ds in omega arith
