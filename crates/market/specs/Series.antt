-- Series of classes that there are.
use Rattle.std.specs.Prelude.{Bool, nat_le}
use Rattle.market.specs.declared.series.Series.{Series}

abbrev pub known : Series → Bool
known s = nat_le s.class 15
