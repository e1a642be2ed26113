-- What a table of functions and predicates shows: which closure stands under a code, and how many there are.
use Rattle.std.specs.Prelude.{◌≡◌, ◌==◌, ◌+◌, ℕ, Bool, if◌then◌else◌, Option, None, Some, is_some}
use Rattle.std.specs.Ordering.{nat_cmp}
use Rattle.std.specs.BTreeMap.{get, btree_map_len}
use Rattle.ref_fun.specs.declared.stored.StoredFun.{StoredFun}
use Rattle.ref_fun.specs.declared.stored.StoredPred.{StoredPred}
use Rattle.ref_fun.specs.declared.tables.FunTable.{FunTable}

-- the code under which a closure stands
abbrev pub fun_code : {X F g : _} → StoredFun X F g → ℕ
fun_code f = f.code

abbrev pub pred_code : {X F g : _} → StoredPred X F g → ℕ
pred_code p = p.code

module _ {X Y F G g h : _} where
  -- what stands under a code
  abbrev pub fun_of : FunTable X Y F G g h → ℕ → Option (StoredFun X F g)
  fun_of table code = get nat_cmp table.funs code

  abbrev pub pred_of : FunTable X Y F G g h → ℕ → Option (StoredPred Y G h)
  pred_of table code = get nat_cmp table.preds code

  abbrev pub knows_fun_of : FunTable X Y F G g h → ℕ → Bool
  knows_fun_of table code = is_some (fun_of table code)

  abbrev pub knows_pred_of : FunTable X Y F G g h → ℕ → Bool
  knows_pred_of table code = is_some (pred_of table code)

  -- how many there are
  abbrev pub fun_count : FunTable X Y F G g h → ℕ
  fun_count table = btree_map_len table.funs

  abbrev pub pred_count : FunTable X Y F G g h → ℕ
  pred_count table = btree_map_len table.preds

  abbrev pub HasNothing : FunTable X Y F G g h → Type 0
  HasNothing table = ((code : ℕ) → fun_of table code ≡ None) × ((code : ℕ) → pred_of table code ≡ None) × (fun_count table ≡ 0) × (pred_count table ≡ 0)

  -- Under each code stands what stood there.
  abbrev pub SameFuns : FunTable X Y F G g h → FunTable X Y F G g h → Type 0
  SameFuns old new = ((code : ℕ) → fun_of new code ≡ fun_of old code) × (fun_count new ≡ fun_count old)

  abbrev pub SamePreds : FunTable X Y F G g h → FunTable X Y F G g h → Type 0
  SamePreds old new = ((code : ℕ) → pred_of new code ≡ pred_of old code) × (pred_count new ≡ pred_count old)

  -- The closure stands under its code, and under each other code stands what stood there.
  abbrev pub AddsFun : FunTable X Y F G g h → StoredFun X F g → FunTable X Y F G g h → Type 0
  AddsFun old fun new = ((code : ℕ) → fun_of new code ≡ (if code == fun_code fun then Some fun else fun_of old code)) × (fun_count new ≡ fun_count old + 1)

  abbrev pub AddsPred : FunTable X Y F G g h → StoredPred Y G h → FunTable X Y F G g h → Type 0
  AddsPred old pred new = ((code : ℕ) → pred_of new code ≡ (if code == pred_code pred then Some pred else pred_of old code)) × (pred_count new ≡ pred_count old + 1)
