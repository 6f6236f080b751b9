-- Laws for the proofs of the readers of values.
mod Members
