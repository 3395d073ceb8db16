use Rattle.std.proofs.Common.{◌≡◌, List, length}
use Rattle.entry_parts.specs.Elements.{AreElements, Element, element, elements_bytes}
use Rattle.entry_parts.proofs.elements.Elements.get.Given as goal

abbrev pub invariant-loop-name : goal.invariant-loop-name
invariant-loop-name l = (es : List Element) × AreElements es × (l.rest ≡ elements_bytes es) × (element l.name l.self ≡ element l.name es)

abbrev pub decreases-loop-name : goal.decreases-loop-name
decreases-loop-name l = length l.rest
