-- What the contracts of inner functions say. Nothing here is to be believed: the public call speaks of the spelling alone.
pub mod Sides
