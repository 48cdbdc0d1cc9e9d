-- What a commit did.
use Rattle.fh_model.specs.Commits as commits
use Rattle.name_core.specs.declared.commits.Committed.{Committed}
use Rattle.name_core.specs.declared.commits.Committed.TheVariants.{Refused, Written}

abbrev pub committed_of : Committed → commits.Committed
committed_of (Refused tags) = commits.turned_down tags
committed_of (Written machine entry) = commits.written machine entry
