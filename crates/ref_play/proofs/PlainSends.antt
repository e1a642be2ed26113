-- What a commit sends and when it may be taken, in plain words.
use Rattle.std.proofs.Common.{Equal, Greater, Less, Ordering, ◌≡◌, ◌≢◌, ℕ, cond, ◌<◌, Bool, true, false, ◌⊎◌, inl, inr, List, [], ◌∷◌, refl, sym, ap, subst, ◌∙◌, arith}
use Rattle.std.specs.BTreeMap.{is_at}
use Rattle.std.specs.BTreeSet.{insert_key}
use Rattle.std.specs.List.{AllByRecursion}
use Rattle.std.specs.Ordering.{MatchOrdering, match_ordering, nat_cmp}
use Rattle.std.specs.Set.{remove_key}
use Rattle.ref_log.specs.declared.sends.Sent.{Sent}
use Rattle.ref_agents.specs.Agents.{with_unreleased}
use Rattle.ref_agents.specs.declared.accounts.SentBy.TheVariants.{Commit}
use Rattle.ref_play.specs.Plain.{AnyByRecursion, AreRising}
use Rattle.ref_play.specs.PlainAgents.{ReleaseMeans, SendsMean}
use Rattle.ref_play.proofs.PlainAgents.{at_itself, at_same}
use Rattle.ref_play.proofs.PlainQueues.{each_here, each_none}
use Rattle.ref_play.proofs.PlainFaults.{rank}

-- ---- what is held

-- a point is among others
abbrev Among : List ℕ → ℕ → Type 0
Among points p = AnyByRecursion (λ q. q ≡ p) points

inserted : (k : ℕ) (xs : List ℕ) (p : ℕ) → Among (insert_key nat_cmp xs k) p → Among xs p ⊎ (p ≡ k)
inserted k [] p (inl same) = inr (sym same)
inserted k [] p (inr there) = absurd there
inserted k (x ∷ xs) p any = by (nat_cmp k x) any (inserted k xs p) where
  further : (x ≡ p) ⊎ Among (insert_key nat_cmp xs k) p → (Among (insert_key nat_cmp xs k) p → Among xs p ⊎ (p ≡ k)) → Among (x ∷ xs) p ⊎ (p ≡ k)
  further (inl same) later = inl (inl same)
  further (inr there) later = onward (later there) where
    onward : Among xs p ⊎ (p ≡ k) → Among (x ∷ xs) p ⊎ (p ≡ k)
    onward (inl a) = inl (inr a)
    onward (inr b) = inr b

  first : (k ≡ p) ⊎ Among (x ∷ xs) p → Among (x ∷ xs) p ⊎ (p ≡ k)
  first (inl same) = inr (sym same)
  first (inr there) = inl there

  by : (o : Ordering) → Among (match_ordering o (k ∷ x ∷ xs) (x ∷ xs) (x ∷ insert_key nat_cmp xs k)) p → (Among (insert_key nat_cmp xs k) p → Among xs p ⊎ (p ≡ k)) → Among (x ∷ xs) p ⊎ (p ≡ k)
  by Less any later = first any
  by Equal any later = inl any
  by Greater any later = further any later

inserting : (k : ℕ) (xs : List ℕ) (p : ℕ) → Among xs p ⊎ (p ≡ k) → Among (insert_key nat_cmp xs k) p
inserting k [] p (inl there) = absurd there
inserting k [] p (inr same) = inl (sym same)
inserting k (x ∷ xs) p any = by (nat_cmp k x) (rank k x) any (inserting k xs p) where
  by : (o : Ordering) → MatchOrdering o (k < x) (k ≡ x) (x < k) → Among (x ∷ xs) p ⊎ (p ≡ k) → (Among xs p ⊎ (p ≡ k) → Among (insert_key nat_cmp xs k) p) → Among (match_ordering o (k ∷ x ∷ xs) (x ∷ xs) (x ∷ insert_key nat_cmp xs k)) p
  by Less is (inl there) later = inr there
  by Less is (inr same) later = inl (sym same)
  by Equal is (inl there) later = there
  by Equal is (inr same) later = inl (sym is ∙ sym same)
  by Greater is (inl (inl same)) later = inl same
  by Greater is (inl (inr there)) later = inr (later (inl there))
  by Greater is (inr same) later = inr (later (inr same))

held_by : (point : ℕ) (ss : List Sent) (points : List ℕ) (p : ℕ) → Among (with_unreleased point ss points) p → Among points p ⊎ ((p ≡ point) × (ss ≢ []))
held_by point [] points p any = inl any
held_by point (s ∷ ss) points p any = by (inserted point points p any) where
  by : Among points p ⊎ (p ≡ point) → Among points p ⊎ ((p ≡ point) × ((s ∷ ss) ≢ []))
  by (inl there) = inl there
  by (inr same) = inr (same, λ empty. absurd cc)

by_held : (point : ℕ) (ss : List Sent) (points : List ℕ) (p : ℕ) → Among points p ⊎ ((p ≡ point) × (ss ≢ [])) → Among (with_unreleased point ss points) p
by_held point [] points p (inl there) = there
by_held point [] points p (inr new) = absurd (new.1 refl)
by_held point (s ∷ ss) points p (inl there) = inserting point points p (inl there)
by_held point (s ∷ ss) points p (inr new) = inserting point points p (inr new.0)

pub sends_mean : SendsMean
sends_mean store point sends = record {
  here = λ g agent here. each_here (λ (s : Sent). s.agent) (λ (s : Sent). s.action) (Commit point) sends store.agents g agent here;
  none = λ g none. each_none (λ (s : Sent). s.agent) (λ (s : Sent). s.action) (Commit point) sends store.agents g none;
  held = λ p. (held_by point sends store.unreleased p, by_held point sends store.unreleased p);
  guards = refl;
}

-- ---- what is released

later_than : (n : ℕ) (ns : List ℕ) (p : ℕ) → AllByRecursion (λ m. n < m) ns → Among ns p → n < p
later_than n [] p all any = absurd any
later_than n (m ∷ ms) p all (inl same) = subst (λ x. n < x) same all.0
later_than n (m ∷ ms) p all (inr there) = later_than n ms p all.1 there

removed : (point : ℕ) (xs : List ℕ) (p : ℕ) → AreRising xs → Among (remove_key (is_at (nat_cmp point)) xs) p → Among xs p × (p ≢ point)
removed point [] p up any = absurd any
removed point (x ∷ xs) p up any = by (is_at (nat_cmp point) x) refl any (removed point xs p up.1) where
  further : is_at (nat_cmp point) x ≡ false → (x ≡ p) ⊎ Among (remove_key (is_at (nat_cmp point)) xs) p → (Among (remove_key (is_at (nat_cmp point)) xs) p → Among xs p × (p ≢ point)) → Among (x ∷ xs) p × (p ≢ point)
  further other (inl same) later = (inl same, λ is. let at : is_at (nat_cmp point) x ≡ true = ap (is_at (nat_cmp point)) (same ∙ is) ∙ at_itself point in absurd cc)
  further other (inr there) later =
      let rest = later there in
      (inr rest.0, rest.1)

  by : (b : Bool) → is_at (nat_cmp point) x ≡ b → Among (cond b xs (x ∷ remove_key (is_at (nat_cmp point)) xs)) p → (Among (remove_key (is_at (nat_cmp point)) xs) p → Among xs p × (p ≢ point)) → Among (x ∷ xs) p × (p ≢ point)
  by true is any later =
      let same = at_same point x is in
      let after = later_than x xs p up.0 any in
      (inr any, λ equal. absurd (omega (arith, same, after, equal)))
  by false is any later = further is any later

removing : (point : ℕ) (xs : List ℕ) (p : ℕ) → Among xs p → p ≢ point → Among (remove_key (is_at (nat_cmp point)) xs) p
removing point [] p any other = any
removing point (x ∷ xs) p any other = by (is_at (nat_cmp point) x) refl any (λ there. removing point xs p there other) where
  by : (b : Bool) → is_at (nat_cmp point) x ≡ b → Among (x ∷ xs) p → (Among xs p → Among (remove_key (is_at (nat_cmp point)) xs) p) → Among (cond b xs (x ∷ remove_key (is_at (nat_cmp point)) xs)) p
  by true is (inl same) later = absurd (other (sym same ∙ sym (at_same point x is)))
  by true is (inr there) later = there
  by false is (inl same) later = inl same
  by false is (inr there) later = inr (later there)

pub release_means : ReleaseMeans
release_means store point up = record {
  held = λ p. (removed point store.unreleased p up, λ both. removing point store.unreleased p both.0 both.1);
  agents = refl;
  guards = refl;
}
