-- The stages noted in the information on functions.
use Rattle.std.specs.Prelude.{List, map}
use Rattle.typing_infos.specs.declared.function_info.FunctionInfo.{FunctionInfo}
use Rattle.ir_flags.specs.declared.stages.ShaderStages.{ShaderStages}

abbrev pub noted : List FunctionInfo → List ShaderStages
noted infos = map (λ (i : FunctionInfo). i.available_stages) infos
