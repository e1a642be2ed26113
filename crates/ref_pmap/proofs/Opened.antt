-- What is known of a tree once its node is.
use Rattle.std.proofs.Common.{◌≡◌, ℕ, ◌+◌, ◌/◌, ◌^◌, ◌<◌, ◌≤◌, ◌⊎◌, length, get_or, slice_set, take, sym, ap, ◌∙◌, subst, arith, Result, Ok, Err, IfOk, OnOk, OnErr}
use Rattle.std.specs.Ordering.{nat_cmp}
use Rattle.std.specs.FinMap.{FinMap, get, empty, insert, remove}
use Rattle.std.specs.Arc.{arc_value}
use Rattle.std.specs.declared.sync.Arc.{Arc}
use Rattle.std.specs.declared.alloc.Global.{Global}
use Rattle.ref_pmap.specs.Joined.{single}
use Rattle.ref_pmap.specs.Nodes.{tree_of, IsTree}
use Rattle.ref_pmap.specs.Trees.{all_joined, height, IsFork}
use Rattle.ref_pmap.specs.declared.trees.Node.{Node}
use Rattle.ref_pmap.specs.declared.trees.Node.TheVariants.{Empty, Leaf, Fork}
use Rattle.ref_pmap.specs.declared.trees.Branch.{Branch}
use Rattle.ref_pmap.specs.declared.trees.Entry.{Entry}
use Rattle.ref_pmap.proofs.Removals.{gone_already}
use Rattle.std.proofs.lemmas.List.{take_all}
use Rattle.ref_pmap.proofs.Joins.{single_again}
use Rattle.ref_pmap.proofs.Sides.{get_here, get_outside, side_read, put_fork, put_map, gone_map}

-- what a tree d is whose node is such a fork
pub record AtFork {V : Type 0} (d : FinMap nat_cmp V × ℕ) (b : Branch V) : Type 0 where
  pub is : d ≡ (all_joined b.sides, height b.sides)
  pub fork : IsFork b.block b.sides

pub at_fork : {V : Type 0} {n : Node V} {d : FinMap nat_cmp V × ℕ} {a : Arc (Branch V) Global} {b : Branch V} → tree_of n ≡ d → IsTree n → n ≡ Fork a → b ≡ arc_value a → AtFork d b
at_fork {b = b} view_is inv is same = record {
  is = sym view_is ∙ ap tree_of is ∙ ap (λ x. (all_joined x.sides, height x.sides)) (sym same);
  fork = subst (λ x. IsFork x.block x.sides) (sym same) (subst IsTree is inv);
}

pub get_in : {V : Type 0} {d : FinMap nat_cmp V × ℕ} {b : Branch V} → AtFork d b → (i key : ℕ) (t : FinMap nat_cmp V × ℕ) → i < 16 → key / 2 ^ b.block.shift ≡ b.block.first + i → get (get_or b.sides i t).0 key ≡ get d.0 key
get_in {d = d} {b = b} f i key t low at =
    ap (λ m. get m key) (side_read b.sides i t (omega (arith, f.fork.count))) ∙ sym (get_here b.block b.sides f.fork i key at) ∙ ap (λ x. get x.0 key) (sym f.is)

pub at_leaf : {V : Type 0} {n : Node V} {d : FinMap nat_cmp V × ℕ} {a : Arc (Entry V) Global} {e : Entry V} → tree_of n ≡ d → n ≡ Leaf a → e ≡ arc_value a → d ≡ (single e.key e.value, 0)
at_leaf {e = e} view_is is same = sym view_is ∙ ap tree_of is ∙ ap (λ x. (single x.key x.value, 0)) (sym same)

pub at_empty : {V : Type 0} {n : Node V} {d : FinMap nat_cmp V × ℕ} → tree_of n ≡ d → n ≡ Empty → d ≡ (empty, 0)
at_empty view_is is = sym view_is ∙ ap tree_of is

pub same_branch : {V : Type 0} (b c : Branch V) → c.block ≡ b.block → c.sides ≡ b.sides → c ≡ b
same_branch b c e f = ap (λ x. record c { block = x }) e ∙ ap (λ x. record b { sides = x }) f

pub copied_whole : {V : Type 0} (b c : Branch V) (n : ℕ) → length b.sides ≡ 16 → (c.block ≡ b.block) × (length c.sides ≡ 16) × (take n c.sides ≡ take n b.sides) → n ≡ 16 → c ≡ b
copied_whole b c n long h all = same_branch b c h.0 (sym (take_all n c.sides (omega (arith, h.1))) ∙ h.2 ∙ take_all n b.sides (omega arith))

-- ---- a key that is put in

pub put_leaf : {V : Type 0} {n : Node V} {d : FinMap nat_cmp V × ℕ} {a : Arc (Entry V) Global} (e : Entry V) (k : ℕ) (v : V) → tree_of n ≡ d → n ≡ Leaf a → e ≡ record { key = a.value.key; value = v } → a.value.key ≡ k → single e.key e.value ≡ insert d.0 k v
put_leaf {a = a} e k v view_is is put same =
    ap (λ x. single x.key x.value) put ∙ single_again a.value.key a.value.value v ∙ ap (λ q. insert (single a.value.key a.value.value) q v) same ∙ ap (λ x. insert x.0 k v) (sym (sym view_is ∙ ap tree_of is))

-- of a fork o that equals b
pub put_branch_fork : {V T E : Type 0} (b o : Branch V) (i k : ℕ) (v : V) (t u : FinMap nat_cmp V × ℕ) (result : Result T E) → o ≡ b → IsFork b.block b.sides → i < 16 → k / 2 ^ b.block.shift ≡ b.block.first + i
    → OnOk result (t.0 ≡ insert (get_or o.sides i u).0 k v) → OnErr result (t ≡ get_or o.sides i u) → IsFork o.block (slice_set o.sides i t)
put_branch_fork b o i k v t u result e f low at ok err =
    put_fork o.block o.sides i k v t u result (subst (λ x. IsFork x.block x.sides) (sym e) f) low (subst (λ x. k / 2 ^ x.block.shift ≡ x.block.first + i) (sym e) at) ok err

pub put_branch_map : {V T E : Type 0} (b o : Branch V) (i k : ℕ) (v : V) (t u : FinMap nat_cmp V × ℕ) (result : Result T E) → o ≡ b → IsFork b.block b.sides → i < 16 → k / 2 ^ b.block.shift ≡ b.block.first + i
    → OnOk result (t.0 ≡ insert (get_or o.sides i u).0 k v) → OnOk result (all_joined (slice_set o.sides i t) ≡ insert (all_joined b.sides) k v)
put_branch_map b o i k v t u result e f low at ok =
    subst (λ x. OnOk result (all_joined (slice_set o.sides i t) ≡ insert (all_joined x.sides) k v)) e
    (put_map o.block o.sides i k v t u result (subst (λ x. IsFork x.block x.sides) (sym e) f) low (subst (λ x. k / 2 ^ x.block.shift ≡ x.block.first + i) (sym e) at) ok)

-- ---- a key that is taken out

pub gone_outside : {V : Type 0} {d : FinMap nat_cmp V × ℕ} {b : Branch V} → AtFork d b → (k : ℕ) → (k / 2 ^ b.block.shift < b.block.first) ⊎ (b.block.first + 16 ≤ k / 2 ^ b.block.shift) → d.0 ≡ remove d.0 k
gone_outside {d = d} {b = b} f k out = gone_already d.0 k (ap (λ x. get x.0 k) f.is ∙ get_outside b.block b.sides f.fork k out)

pub gone_in : {V : Type 0} {d : FinMap nat_cmp V × ℕ} {b : Branch V} → AtFork d b → (i k : ℕ) (t u : FinMap nat_cmp V × ℕ) → i < 16 → k / 2 ^ b.block.shift ≡ b.block.first + i → t.0 ≡ remove (get_or b.sides i u).0 k
    → all_joined (slice_set b.sides i t) ≡ remove d.0 k
gone_in {b = b} f i k t u low at is = gone_map b.block b.sides i k t u f.fork low at is ∙ ap (λ x. remove x.0 k) (sym f.is)

-- ---- results

pub joined_then : {V E : Type 0} (r : Result (FinMap nat_cmp V × ℕ) E) (d : FinMap nat_cmp V × ℕ) (m : FinMap nat_cmp V) → IfOk r (λ t. t ≡ d) → d.0 ≡ m → IfOk r (λ t. t.0 ≡ m)
joined_then (Ok t) d m is same = ap (λ x. x.0) is ∙ same
joined_then (Err e) d m is same = tt

pub map_then : {V E : Type 0} (r : Result (FinMap nat_cmp V × ℕ) E) (m n : FinMap nat_cmp V) → IfOk r (λ t. t.0 ≡ m) → m ≡ n → IfOk r (λ t. t.0 ≡ n)
map_then (Ok t) m n is same = is ∙ same
map_then (Err e) m n is same = tt

pub kept : {T E P : Type 0} (r : Result T E) → P → OnErr r P
kept (Ok x) p = tt
kept (Err e) p = p
