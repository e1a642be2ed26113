-- A name by its first slash.
use Rattle.std.proofs.Common.{◌≡◌, ℕ, ◌+◌, ◌≤◌, Bool, true, false, cond, List, [], Some, None, refl, arith, take, drop, length}
use Rattle.std.specs.Prelude.{◌&&◌, nat_lt, position}
use Rattle.std.specs.List.{position_or_len}
use Rattle.std.proofs.lemmas.Bool.Decides.{nat_tests}
use Rattle.std.proofs.lemmas.List.{drop_all}
use Rattle.ref_value.specs.Names.{is_part, is_slash, is_name}

pub name_of_part : (s : List ℕ) → is_part s ≡ true → is_name s ≡ true
unfolding is_name
name_of_part s h = rw h refl

found : (b : Bool) (n i : ℕ) → cond b (Some n) None ≡ Some i → n ≡ i
found true n i h = cc
found false n i h = absurd cc

pub name_with_slash : (s : List ℕ) (i : ℕ) → is_part s ≡ false → position is_slash s ≡ Some i → is_name s ≡ (is_part (take i s) && is_part (drop (i + 1) s))
unfolding is_name
name_with_slash s i h p = let e : position_or_len is_slash s ≡ i = found (nat_lt (position_or_len is_slash s) (length s)) (position_or_len is_slash s) i p in rw (h, e) refl

past : (s : List ℕ) (n : ℕ) → length s ≤ n → drop (n + 1) s ≡ []
past s n h = drop_all (n + 1) s (omega arith)

missed : (b : Bool) (n : ℕ) → cond b (Some n) None ≡ None → b ≡ false
missed true n h = absurd cc
missed false n h = refl

and_false : (b : Bool) → (b && false) ≡ false
and_false true = refl
and_false false = refl

pub name_without_slash : (s : List ℕ) → is_part s ≡ false → position is_slash s ≡ None → is_name s ≡ false
unfolding is_name
name_without_slash s h p =
    let m : nat_lt (position_or_len is_slash s) (length s) ≡ false = missed (nat_lt (position_or_len is_slash s) (length s)) (position_or_len is_slash s) p in
    let le : length s ≤ position_or_len is_slash s = grind (arith, nat_tests) in
    rw (h, past s (position_or_len is_slash s) le) (and_false (is_part (take (position_or_len is_slash s) s)))
