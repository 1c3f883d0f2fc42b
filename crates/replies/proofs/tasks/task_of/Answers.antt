-- `replies::tasks::task_of` meets its contract.
use Rattle.replies.proofs.tasks.task_of.Goals as goal

pub returns-in-Product : goal.returns-in-Product
returns-in-Product c = rw c.in-Product.is

pub returns-in-Inverse : goal.returns-in-Inverse
returns-in-Inverse c = rw c.in-Inverse.is

pub returns-in-Converse : goal.returns-in-Converse
returns-in-Converse c = rw c.in-Converse.is

pub returns-in-Transpose : goal.returns-in-Transpose
returns-in-Transpose c = rw c.in-Transpose.is

pub returns-in-Submatrix : goal.returns-in-Submatrix
returns-in-Submatrix c = rw (c.in-Submatrix.is, c.mask.ensures, c.mask-in-Submatrix.ensures)

pub returns-in-Schur : goal.returns-in-Schur
returns-in-Schur c = rw c.in-Schur.is
