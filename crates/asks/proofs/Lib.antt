mod Places
mod RefusedExactly
