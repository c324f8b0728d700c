-- Least frames of a body (ECMA-335 III.1.8.1.1).
use Rattle.cil_body.specs.declared.body.Body.{Body}
use Rattle.verify_rules.specs.declared.setting.Setting.{Setting}
use Rattle.verify_spots.specs.Frames.{Table, IsSettingOf, IsVerified, AreLeastFrames}

-- where there are frames there are least ones
abbrev pub LeastFramesExist : Type 0
LeastFramesExist = (s : Setting) (body : Body) → IsSettingOf s body → IsVerified s body → (table : Table) × AreLeastFrames s body table
