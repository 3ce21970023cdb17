-- `questions::write` calls itself with one link fewer, so the measure is the number of links.
use Rattle.questions.proofs.+write.Given as goal

abbrev pub decreases-write : goal.decreases-write
decreases-write l = l.links
