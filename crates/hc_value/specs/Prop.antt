-- Properties (ECMA-262, 6.1.7.1).
use Rattle.hc_value.specs.declared.prop.Held.{Held}
use Rattle.hc_value.specs.declared.prop.Held.TheVariants.{Datum, Pair}
use Rattle.hc_value.specs.declared.prop.Kind.{Kind}
use Rattle.hc_value.specs.declared.prop.Kind.TheVariants.{DataProp, AccessorProp}

-- the kind of what a property holds
abbrev pub kind_of : Held → Kind
kind_of (Datum value) = DataProp
kind_of (Pair getter setter) = AccessorProp
