-- What `show` says of an assembly: its name, and how many rows its tables of types, fields, methods and properties have.
use Rattle.std.specs.Prelude.{◌≡◌, ◌≢◌, ℕ, List, ◌++◌, codes, Option, None, Some}
use Rattle.std.specs.Fmt.{decimal}
use Rattle.pe_image.specs.declared.fault.ImageFault.{ImageFault}
use Rattle.pe_image.specs.declared.sections.Section.{Section}
use Rattle.pe_image.specs.declared.sections.Span.{Span}
use Rattle.pe_image.specs.Sections.{bytes_in}
use Rattle.pe_image.specs.Image.{IsImage}
use Rattle.pe_image.specs.Fault.{IsImageFault}
use Rattle.cli_metadata.specs.declared.fault.MetaFault.{MetaFault}
use Rattle.cli_metadata.specs.declared.fault.MetaCause.{MetaCause}
use Rattle.cli_metadata.specs.declared.tables.Table.TheVariants.{TypeDef, Field, MethodDef, Property, Assembly}
use Rattle.cli_metadata.specs.Metadata.{Contents, rows_of, row_of, IsString, IsNoString}
use Rattle.cli_metadata.specs.Standing.{IsStanding}
use Rattle.cli_metadata.specs.Wrong.{IsWrong}
use Rattle.cli_tables.specs.Assemblies.{assembly_of}
use Rattle.ilspy_cli.specs.Escape.{escaped}
use Rattle.ilspy_cli.specs.Lines.{line_end, bad_image_line, bad_metadata_line, bad_name_line}
use Rattle.ilspy_cli.specs.declared.status.Status.{Status}
use Rattle.ilspy_cli.specs.declared.status.Status.TheVariants.{Done, Refused}

-- the file is an image whose metadata is this
pub record HasContents (file : List ℕ) (contents : Contents) : Type 0 where
  pub sections : List Section
  pub metadata : Span
  pub image : IsImage file sections metadata
  pub stands : IsStanding (bytes_in file metadata) contents

-- the file is an image with this fault of its metadata
pub record HasBadMetadata (file : List ℕ) (fault : MetaFault) : Type 0 where
  pub sections : List Section
  pub metadata : Span
  pub image : IsImage file sections metadata
  pub wrong : IsWrong (bytes_in file metadata) fault.place fault.cause

-- where the name of the first row of the table of assemblies stands in the heap of strings (II.22.2)
abbrev pub name_index : Contents → ℕ
name_index contents = (assembly_of (row_of contents Assembly 1)).name

-- the name of the assembly: that of the first row, where there is one
abbrev pub IsAssemblyName : Contents → Option (List ℕ) → Type 0
IsAssemblyName contents None = rows_of contents Assembly ≡ 0
IsAssemblyName contents (Some name) = (rows_of contents Assembly ≢ 0) × IsString contents.strings (name_index contents) name

-- a name as it is written: with its characters escaped, or a minus where there is none
abbrev pub written_name : Option (List ℕ) → List ℕ
written_name None = codes "-"
written_name (Some name) = escaped name

-- why the first row has no name
pub record HasNoName (contents : Contents) (cause : MetaCause) : Type 0 where
  pub row : rows_of contents Assembly ≢ 0
  pub none : IsNoString contents.strings (name_index contents) cause

-- the line of a number of rows
abbrev pub count_line : List ℕ → ℕ → List ℕ
count_line what n = what ++ (decimal n ++ line_end)

-- the five lines
abbrev pub show_text : Contents → List ℕ → List ℕ
show_text contents name =
    codes "assembly " ++ (name ++ (line_end ++ (count_line (codes "types ") (rows_of contents TypeDef)
    ++ (count_line (codes "fields ") (rows_of contents Field) ++ (count_line (codes "methods ") (rows_of contents MethodDef)
    ++ count_line (codes "properties ") (rows_of contents Property))))))

-- what is said of the assembly in a file
pub record IsShown (file text : List ℕ) : Type 0 where
  pub contents : Contents
  pub has : HasContents file contents
  pub name : Option (List ℕ)
  pub is_name : IsAssemblyName contents name
  pub due : text ≡ show_text contents (written_name name)

-- the line of a file that is no image, of one whose metadata is faulty, and of one whose assembly has no name
pub data IsNotShown (file text : List ℕ) : Type 0 where
  bad_image : (fault : ImageFault) → IsImageFault file fault → text ≡ bad_image_line fault → IsNotShown file text
  bad_metadata : (fault : MetaFault) → HasBadMetadata file fault → text ≡ bad_metadata_line fault → IsNotShown file text
  bad_name : (contents : Contents) (cause : MetaCause) → HasContents file contents → HasNoName contents cause → text ≡ bad_name_line cause → IsNotShown file text

-- what is due for a file that is to be shown
pub data IsShowDue (file : List ℕ) (status : Status) (text : List ℕ) : Type 0 where
  shown : IsShown file text → status ≡ Done → IsShowDue file status text
  not_shown : IsNotShown file text → status ≡ Refused → IsShowDue file status text
