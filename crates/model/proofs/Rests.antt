-- What a product leaves by a number is what the product of its factors' remainders leaves. Assumes nothing.
use Rattle.std.proofs.lemmas.Nat.{mul-mod}

pub ruleset rests = (mul-mod)
