-- Parts of the root, as the definitions have them.
use Rattle.cli_metadata.specs.declared.root.Root.{Root as RootRead}
use Rattle.cli_metadata.specs.declared.root.Header.{Header as HeaderRead}
use Rattle.cli_metadata.specs.Root.{Root}
use Rattle.cli_metadata.specs.Standing.{Header}

abbrev pub root_as : RootRead → Root
root_as r = record { at = r.at; count = r.count }

abbrev pub header_of : HeaderRead → Header
header_of h = record { stream = h.stream; name = h.name.now; next = h.next }
