-- Results of ray queries.
use Rattle.std.specs.Prelude.{ℕ, Option, option_map, Result, ok_or}
use Rattle.typing_layout.specs.TypingForms.{Form, form_of_type}
use Rattle.spec_expressions.specs.judged.Context.{Context}
use Rattle.spec_expressions.specs.declared.faults.TypingFault.{TypingFault}
use Rattle.spec_expressions.specs.declared.faults.TypingFault.TheVariants.{MissingSpecialType}

-- a special type, if the module has it
abbrev pub special_type : Context → Option ℕ → Result Form TypingFault
special_type c type = ok_or (option_map (form_of_type c.types) type) MissingSpecialType
