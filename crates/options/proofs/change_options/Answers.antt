use Rattle.std.proofs.Common.{rules, ◌≡◌, ◌∙◌}
use Rattle.part.specs.Options.{changed_options}
use Rattle.options.specs.Changed.{changed_at}
use Rattle.options.proofs.Cells.{changed_cells, changed_is}
use Rattle.options.proofs.change_options.Goals as goal

pub returns : goal.returns
returns c =
    let s = c.args.options.now in
    let optcr = c.args.optcr in
    c.rewrite.ensures (changed_options s optcr) (changed_cells optcr s)
    (λ i r h p. let made : r ≡ changed_at optcr i = search rules in made ∙ changed_is optcr s i h)
