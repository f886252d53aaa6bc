mod Named
mod Steps
