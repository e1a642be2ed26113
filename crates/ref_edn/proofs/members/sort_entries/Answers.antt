use Rattle.std.proofs.Common.{sym, ◌∙◌}
use Rattle.ref_edn.proofs.Twins.{key_twins, keys_ascend_so}
use Rattle.ref_edn.proofs.members.sort_entries.Goals as goal

pub returns-clause-first : goal.returns-clause-first
returns-clause-first c =
    rw c.deref.ensures.value at c.most_left_of_keys.ensures ∙ key_twins c.args.found.now.items c.sort_unstable.new.self.items c.requires c.sort_unstable.ensures.permutation c.sort_unstable.ensures.sorted

pub returns-clause-ascends : goal.returns-clause-ascends
returns-clause-ascends c none =
    let is = rw c.deref.ensures.value at c.most_left_of_keys.ensures in
    keys_ascend_so c.args.found.now.items c.sort_unstable.new.self.items c.requires c.sort_unstable.ensures.permutation (sym is ∙ none)
