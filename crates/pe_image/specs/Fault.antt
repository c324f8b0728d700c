-- What is wrong with a file that is no image.
use Rattle.std.specs.Prelude.{ℕ, List, Err}
use Rattle.pe_image.specs.declared.fault.ImageFault.{ImageFault}
use Rattle.pe_image.specs.Image.{ReadsImage}

-- the file's fault: that of the first step of the reading that has one
abbrev pub IsImageFault : List ℕ → ImageFault → Type 0
IsImageFault file fault = ReadsImage file (Err fault)
