-- `listing::examine` meets its contract: a wrong length is refusal 1.
-- Assumes nothing.
use mathlib.Core.Path.{sym, ◌∙◌}
use Rattle.listing.proofs.Examining.{refused-length}
use Rattle.listing.proofs.examine.Goals as goal

pub returns-then-not-length_fits : goal.returns-then-not-length_fits
returns-then-not-length_fits c =
    refused-length c.args.log.now (sym c.length_fits.ensures ∙ c.if-not-length_fits.true)
