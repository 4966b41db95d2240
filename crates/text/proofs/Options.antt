-- What a value says of the test or the steps that it comes from. Assumes nothing.
use Rattle.std.proofs.Common.{◌≡◌, Some, None, Option, refl, arith}
use Rattle.std.specs.Option.{option_map}
use Rattle.text.specs.Steps.{and_then}

pub then_parts : {X Y : Type 0} (o : Option X) (next : X → Option Y) (y : Y) → and_then o next ≡ Some y → (x : X) × (o ≡ Some x) × (next x ≡ Some y)
then_parts None next y e = absurd (grind arith)
then_parts (Some x) next y e = (x, refl, e)

pub option_map_some : {X Y : Type 0} (f : X → Y) (o : Option X) (y : Y) → option_map f o ≡ Some y → (x : X) × (o ≡ Some x) × (f x ≡ y)
option_map_some f None y e = absurd (grind arith)
option_map_some f (Some x) y e = (x, refl, cc)
