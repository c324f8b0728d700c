-- The values that the code holds, as what they stand for.
use Rattle.std.specs.Prelude.{map}
use Rattle.std.specs.Option.{option_map}
use Rattle.cs_declared.specs.declared.declared.Declared.{Declared}
use Rattle.cs_declared.specs.declared.declared.What.{What}
use Rattle.cs_declared.specs.declared.declared.What.TheVariants as what
use Rattle.cs_declared.specs.Types.{Content, Body, Enum, Delegate, Placed, members_of, item_grown}

abbrev pub content_of : What → Content
content_of (what.Body kind bases items) = Body kind bases.now (members_of (map item_grown items.now))
content_of (what.Enum ty enumerators) = Enum ty.now enumerators.now
content_of (what.Delegate result params) = Delegate (option_map (λ t. t.now) result) params.now

abbrev pub seen : Declared → Placed
seen d =
    record {
      outer = d.outer;
      within = d.within;
      space = d.space;
      full = d.full;
      mods = d.mods;
      name = d.name.now;
      content = content_of d.what;
    }
