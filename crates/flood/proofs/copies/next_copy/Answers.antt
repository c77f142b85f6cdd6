use Rattle.std.proofs.Common.{◌≡◌, true, false, length, rules}
use Rattle.std.proofs.lemmas.Iterator.{first_from_Range}
use Rattle.search.proofs.Places.{lowest_of}
use Rattle.flood.specs.Copies.{copy_here, copy_at}
use Rattle.flood.proofs.Onward.{found}
use Rattle.flood.proofs.copies.next_copy.Goals as goal

pub returns : goal.returns
returns g c =
    let links = c.args.links.now in
    let test = copy_here c.args.rows.now links in
    let first = c.args.position in
    let ran = first_from_Range _ _ _ _ (λ k. test k ≡ true) (λ k. test k ≡ false) c.find.ensures.ran (λ x q k. search rules) (λ x q k. (search rules, search rules)) in
    lowest_of (copy_at c.args.rows.now links first) (length links) c.find.result (found test first (length links) c.find.result ran)
