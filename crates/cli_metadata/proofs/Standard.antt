-- The tables and coded indices are those of the standard, as the checker computes.
use Rattle.std.proofs.Common.{refl}
use Rattle.cli_metadata.specs.declared.coded_index.Coded.TheVariants.{TypeDefOrRef, HasConstant, HasCustomAttribute, HasFieldMarshal, HasDeclSecurity, MemberRefParent, HasSemantics, MethodDefOrRef, MemberForwarded, Implementation, CustomAttributeType, ResolutionScope, TypeOrMethodDef}
use Rattle.cli_metadata.specs.Laws.{TablesAreTheStandards, CodedAreTheStandards}

pub tables_are : TablesAreTheStandards
tables_are = refl

pub coded_are : CodedAreTheStandards
coded_are TypeDefOrRef = refl
coded_are HasConstant = refl
coded_are HasCustomAttribute = refl
coded_are HasFieldMarshal = refl
coded_are HasDeclSecurity = refl
coded_are MemberRefParent = refl
coded_are HasSemantics = refl
coded_are MethodDefOrRef = refl
coded_are MemberForwarded = refl
coded_are Implementation = refl
coded_are CustomAttributeType = refl
coded_are ResolutionScope = refl
coded_are TypeOrMethodDef = refl
