-- The layout of a static method of ints is written well.
use Rattle.std.proofs.Common.{ℕ, false, List, [], All, Some, None, refl, arith}
use Rattle.cs_token.specs.declared.lexeme.Lexeme.TheVariants as lexeme
use Rattle.cs_tree.specs.declared.types.Param.{Param}
use Rattle.cs_tree.specs.declared.forms.Block.{Block}
use Rattle.cs_layout.specs.Words.{fixed}
use Rattle.cs_layout.specs.Layout.{indent, deeper}
use Rattle.cs_unit_layout.specs.Heads.{headword, mods_pieces, result_pieces, params_pieces}
use Rattle.cs_unit_layout.specs.Members.{method_head, block_behind, bodied}
use Rattle.cs_wellformed.specs.Words.{IsName, IsType, IsParam}
use Rattle.cs_wellformed.specs.WellFormed.{IsBlock}
use Rattle.cs_roundtrip_written.specs.Sound.{Sound, Is, Closed}
use Rattle.cs_roundtrip_written.proofs.Sounds.{sound_then, sound_none, sound_where, spaced, indented, takes_free, free_is, is_none, free_open, puts_sign, puts_keyword}
use Rattle.cs_roundtrip_written.proofs.Words.{sound_name, sound_type, sound_params}
use Rattle.cs_roundtrip_written.proofs.Statements.{Any, sound_braced, deeper_blank}
use Rattle.cs_roundtrip_written.proofs.Whole.{block_sound}
use Rattle.ilspy_body.specs.Tree.{named, int_form, static}

-- `static` and a blank
sound_static : Sound (Is None) (mods_pieces static) (Is None)
unfolding headword
sound_static = puts_keyword 58 (omega arith) (λ s e. is_none s e (lexeme.Keyword 58)) (spaced 32 [] refl (sound_none (λ s e. e)))

-- `int` and a blank
sound_result : IsType 33 int_form → Sound (Is None) (result_pieces (Some int_form)) (Is None)
unfolding fixed
sound_result t =
    sound_then (sound_where (λ s e. takes_free false s (is_none s e)) (sound_type false 33 int_form t)) (spaced 32 [] refl (sound_none (λ s e. e)))

-- parameters in parentheses
sound_parameters : (ps : List Param) → All (IsParam 33) ps → Sound Closed (params_pieces ps) Any
unfolding fixed
sound_parameters ps h =
    puts_sign 2 (omega arith) (λ s c. c 2)
    (sound_then (sound_where (λ s e. free_is (Some (lexeme.Sign 2)) s free_open e) (sound_params 33 ps h)) (puts_sign 3 (omega arith) (λ s c. c 3) (sound_none (λ s e. tt))))

sound_head : (text : List ℕ) (ps : List Param) → IsType 33 int_form → IsName text → All (IsParam 33) ps → Sound (Is None) (method_head static (Some int_form) None (named text) ps) Any
sound_head text ps t n h =
    sound_then sound_static
    (sound_then (sound_result t)
    (sound_then (sound_where (λ s e. takes_free false s (is_none s e)) (sound_name false text n)) (sound_parameters ps h)))

-- a block on lines of its own
sound_body : (b : Block) (c : ℕ) → IsBlock 400 33 b c → Sound Any (block_behind b []) (Is None)
unfolding fixed
sound_body b c x = spaced 10 [] refl (sound_braced [] refl b (block_sound 400 33 x (deeper []) (deeper_blank [] refl)))

pub sound_method : (text : List ℕ) (ps : List Param) (b : Block) (c : ℕ) → IsType 33 int_form → IsName text → All (IsParam 33) ps → IsBlock 400 33 b c
    → Sound (Is None) (bodied (method_head static (Some int_form) None (named text) ps) (Some b) []) (Is None)
unfolding indent
sound_method text ps b c t n h x = indented [] refl (sound_then (sound_head text ps t n h) (sound_body b c x))
