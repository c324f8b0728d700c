use Rattle.std.proofs.Common.{List, ℕ, ap, sym, subst, ◌∙◌}
use Rattle.class_rows.specs.Lookups.{AreFound}
use Rattle.class_search.specs.Left.{types_left}
use Rattle.class_lookup.specs.Left.{all_found}
use Rattle.class_lookup.proofs.Looked.{bases_fit, named_fit, are_found}
use Rattle.class_lookup.proofs.found.lookup.Goals as goal

pub search_in-search-requires-clause-bases : goal.search_in-search-requires-clause-bases
search_in-search-requires-clause-bases c = bases_fit c.args.types.now c.args.members.now c.requires.bases

pub search_in-search-requires-clause-interfaces : goal.search_in-search-requires-clause-interfaces
search_in-search-requires-clause-interfaces c = named_fit c.args.types.now c.args.members.now c.requires.bases

pub returns-clause-found : goal.returns-clause-found
returns-clause-found c =
    let types = c.args.types.now in
    let members = c.args.members.now in
    let nameless = c.args.named.now.nameless in
    let ts = types_left c.search_in-search.result in
    let same = c.as_bytes.ensures.value ∙ c.as_str.ensures in
    let left = c.found_in.ensures.left ∙ ap (λ (name : List ℕ). all_found members nameless name ts) same in
    record {
      searched = ts;
      are_searched = c.search_in-search.ensures.searched;
      are_found = subst (λ (found : List ℕ). AreFound types members c.args.explicit.now c.args.name.now ts found) (sym left)
          (are_found types members c.args.explicit.now nameless c.requires.named.marks c.args.name.now ts);
    }
