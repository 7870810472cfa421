mod Kill_call
mod Answer_made
