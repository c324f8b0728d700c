-- The tables and the coded indices, as the crate's constants have them.
use Rattle.cli_metadata.specs.declared.coded_index.Coded.{Coded}
use Rattle.cli_metadata.specs.declared.coded_index.Coded.TheVariants.{TypeDefOrRef, HasConstant, HasCustomAttribute, HasFieldMarshal, HasDeclSecurity, MemberRefParent, HasSemantics, MethodDefOrRef, MemberForwarded, Implementation, CustomAttributeType, ResolutionScope, TypeOrMethodDef}
use Rattle.cli_metadata.specs.declared.coded_index.Targets.{Targets}
use Rattle.cli_metadata.specs.declared.coded_index.TheConstants.{TYPE_DEF_OR_REF, HAS_CONSTANT, HAS_CUSTOM_ATTRIBUTE, HAS_FIELD_MARSHAL, HAS_DECL_SECURITY, MEMBER_REF_PARENT, HAS_SEMANTICS, METHOD_DEF_OR_REF, MEMBER_FORWARDED, IMPLEMENTATION, CUSTOM_ATTRIBUTE_TYPE, RESOLUTION_SCOPE, TYPE_OR_METHOD_DEF}

-- the tables that a coded index may name (ECMA-335 II.24.2.6)
abbrev pub targets_of : Coded → Targets
targets_of TypeDefOrRef = TYPE_DEF_OR_REF
targets_of HasConstant = HAS_CONSTANT
targets_of HasCustomAttribute = HAS_CUSTOM_ATTRIBUTE
targets_of HasFieldMarshal = HAS_FIELD_MARSHAL
targets_of HasDeclSecurity = HAS_DECL_SECURITY
targets_of MemberRefParent = MEMBER_REF_PARENT
targets_of HasSemantics = HAS_SEMANTICS
targets_of MethodDefOrRef = METHOD_DEF_OR_REF
targets_of MemberForwarded = MEMBER_FORWARDED
targets_of Implementation = IMPLEMENTATION
targets_of CustomAttributeType = CUSTOM_ATTRIBUTE_TYPE
targets_of ResolutionScope = RESOLUTION_SCOPE
targets_of TypeOrMethodDef = TYPE_OR_METHOD_DEF
