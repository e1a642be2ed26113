use Rattle.std.proofs.Common.{rules, of_calls}
use Rattle.std.specs.List.Sorted.{IsBinarySearchResult}
use Rattle.std.proofs.lemmas.Fn.{always_returns_same}
use Rattle.ref_value.specs.Order.{edn_cmp}
use Rattle.ref_value.proofs.Searching.{key_found, key_missed}
use Rattle.ref_value.proofs.sequence.search.search_pairs.Goals as goal

pub returns : goal.returns
returns c =
    let pairs = c.args.pairs.now in
    let facts = c.binary_search_by.ensures in
    let result : IsBinarySearchResult (λ e. edn_cmp e.0 c.args.key.now) pairs c.binary_search_by.result
    = facts.position (λ e. edn_cmp e.0 c.args.key.now) (always_returns_same _ _ _ (λ a r g called. search (rules, of_calls))) in
    record {
      found = key_found pairs c.args.key.now c.binary_search_by.result facts.bound result;
      absent = key_missed pairs c.args.key.now c.binary_search_by.result c.requires facts.bound result;
    }
