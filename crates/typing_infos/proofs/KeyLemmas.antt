-- The key of a pair, by its parts.
use Rattle.std.proofs.Common.{◌≡◌, refl}
use Rattle.spec_expressions.specs.declared.sampling.GlobalOrArgument.{GlobalOrArgument}
use Rattle.spec_expressions.specs.declared.sampling.GlobalOrArgument.TheVariants.{Global, Argument}
use Rattle.typing_infos.specs.Keys.{key_of_parts, global_of, key_by}

pub key_is : (image sampler : GlobalOrArgument) → key_of_parts image sampler ≡ key_by (global_of image) (global_of sampler)
key_is (Global image) (Global sampler) = refl
key_is (Global image) (Argument number) = refl
key_is (Argument number) (Global sampler) = refl
key_is (Argument number) (Argument other) = refl
