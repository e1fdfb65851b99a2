use Rattle.function_entries.proofs.known.KnownInterfaces.new.Goals as goal

pub returns : goal.returns
returns c = λ flags capabilities types. record { varyings = c.new.ensures flags capabilities types; meshes = c.new-2.ensures types }
